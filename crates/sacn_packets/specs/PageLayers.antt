-- The layers of a page among its octets.
use Rattle.std.specs.Prelude.{◌≡◌, ℕ, ◌+◌, ◌%◌, ◌≤◌, List, length}
use Rattle.sacn_packets.specs.Octets.{length_of}
use Rattle.sacn_packets.specs.RootText.{Root}
use Rattle.sacn_packets.specs.RootReading.{root_at}
use Rattle.sacn_packets.specs.Page.{Page}
use Rattle.sacn_packets.specs.PageText.{PageLayer}
use Rattle.sacn_packets.specs.PageReading.{page_at}

abbrev pub page_of : Root → PageLayer → Page
page_of root layer = record { cid = root.cid; name = layer.name; page = layer.page; last = layer.last; numbers = layer.numbers }

-- the page that octets are
abbrev pub page_in : List ℕ → Page
page_in octets = page_of (root_at octets) (page_at (root_at octets).body)

-- the root PDU is there whole, has room for the framing layer's 74 octets and the discovery layer's first 8, and ends after a universe number
pub record IsPageLaidOut (octets : List ℕ) : Type 0 where
  pub least : 104 ≤ length_of octets 16
  pub whole : 16 + length_of octets 16 ≤ length octets
  pub even : length_of octets 16 % 2 ≡ 0
