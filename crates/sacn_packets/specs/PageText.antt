-- The texts of a discovery page and of a synchronization packet: their fields, joined in order.
use Rattle.std.specs.Prelude.{◌≡◌, ℕ, ◌+◌, ◌≤◌, ◌^◌, ◌<◌, List, [], ◌∷◌, ◌++◌, length}
use Rattle.std.specs.List.{flat_map, AllByRecursion}
use Rattle.std.specs.Int.{w16, w32, to_be_bytes}
use Rattle.sacn_packets.specs.RootText.{flags_and_length}

-- what a page's framing and discovery layers carry
pub record PageLayer : Type 0 where
  pub name : List ℕ
  pub page : ℕ
  pub last : ℕ
  pub numbers : List ℕ

pub record IsPageLayer (p : PageLayer) : Type 0 where
  pub name : length p.name ≡ 64
  pub page : p.page ≤ p.last
  pub count : length p.numbers ≤ 512
  pub numbers : AllByRecursion (λ n. n < 2 ^ 16) p.numbers

abbrev pub numbers_text : List ℕ → List ℕ
numbers_text numbers = flat_map (to_be_bytes w16) numbers

-- flags and length; vector 1; page; last page; universe numbers
abbrev pub discovery_text : PageLayer → List ℕ
discovery_text p = flags_and_length (8 + length (numbers_text p.numbers)) ++ to_be_bytes w32 1 ++ (p.page ∷ []) ++ (p.last ∷ []) ++ numbers_text p.numbers

-- flags and length; vector 2; source name; four reserved octets; the discovery layer
abbrev pub page_framing_text : PageLayer → List ℕ → List ℕ
page_framing_text p reserved = flags_and_length (74 + length (discovery_text p)) ++ to_be_bytes w32 2 ++ p.name ++ reserved ++ discovery_text p

-- flags and length; vector 1; anything to the end
abbrev pub sync_framing_text : List ℕ → List ℕ
sync_framing_text content = flags_and_length (6 + length content) ++ to_be_bytes w32 1 ++ content
