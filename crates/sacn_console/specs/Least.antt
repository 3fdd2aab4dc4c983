-- The least-numbered due universe goes first.
use Rattle.std.specs.Prelude.{◌≡◌, ℕ, ◌<◌, ◌≤◌, true, List, get_or, length, Some}
use Rattle.std.specs.List.Sorted.{IsStrictlyIncreasing}
use Rattle.sacn_packets.specs.Data.{Data}
use Rattle.sacn_console.specs.Lines.{Packet, Deed}
use Rattle.sacn_console.specs.Due.{Life, universe_due, due_by_list}

-- it is due, and no due universe of the list has a lower number
pub record IsLeastDue (life : Life) (t : ℕ) (ds : List Deed) (u : ℕ) : Type 0 where
  pub due : universe_due life t ds u ≡ true
  pub least : (i : ℕ) → i < length life.universes → universe_due life t ds (get_or life.universes i 0) ≡ true → u ≤ get_or life.universes i 0

-- In a life whose universes strictly ascend, a packet that is due is that of the least-numbered due universe.
abbrev pub LeastGoesFirst : Type 0
LeastGoesFirst = (life : Life) → IsStrictlyIncreasing life.universes → (t : ℕ) (ds : List Deed) (d : Data) →
    due_by_list life t ds ≡ Some (Packet d) → IsLeastDue life t ds d.universe
