-- The pages of a list of universes (E1.31, 8).
use Rattle.std.specs.Prelude.{◌≡◌, ℕ, zero, suc, ◌+◌, ◌-◌, ◌*◌, ◌/◌, List, [], ◌∷◌, ◌++◌, length, take, drop, ◌==◌, if◌then◌else◌}
use Rattle.std.specs.Int.{w32, to_be_bytes}
use Rattle.sacn_packets.specs.RootText.{flags_and_length}
use Rattle.sacn_packets.specs.Page.{Page}
use Rattle.sacn_packets.specs.PacketText.{unused}

-- one page of an empty list, else n divided by 512, rounded up
abbrev pub page_count : ℕ → ℕ
page_count n = if n == 0 then 1 else (n + 511) / 512

-- the numbers on page k
abbrev pub numbers_on : List ℕ → ℕ → List ℕ
numbers_on list k = take 512 (drop (512 * k) list)

-- page k of a list
abbrev pub page_of_list : List ℕ → ℕ → List ℕ → List ℕ → Page
page_of_list list k cid name = record { cid = cid; name = name; page = k; last = page_count (length list) - 1; numbers = numbers_on list k }

-- the first pages of a list, joined
abbrev pub first_pages : List ℕ → ℕ → List ℕ
first_pages list zero = []
first_pages list (suc k) = first_pages list k ++ numbers_on list k

-- the pages of a list, joined, are the list
abbrev pub PagesAreTheList : Type 0
PagesAreTheList = (list : List ℕ) → first_pages list (page_count (length list)) ≡ list

-- what stands before a page's numbers: framing and discovery layers, up to the last page
abbrev pub page_head : List ℕ → ℕ → ℕ → ℕ → List ℕ
page_head name page last len = flags_and_length (82 + len) ++ to_be_bytes w32 2 ++ name ++ unused ++ flags_and_length (8 + len) ++ to_be_bytes w32 1 ++ (page ∷ []) ++ (last ∷ [])
