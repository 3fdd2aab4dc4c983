-- Boards that hold the same, and those that serve a universe.
use Rattle.std.specs.Prelude.{◌≡◌, ◌==◌, ◌||◌, ℕ, Bool, find, is_some, length, nat_lt, Option, None, Some}
use Rattle.sacn_page.specs.declared.board.Board.{Board}
use Rattle.sacn_page.specs.declared.board.TheConstants.{MAX_LIT}
use Rattle.sacn_page.specs.WholeDocuments.{universe_shown}

-- the same account, alarms and merged universes, and the same universe is preferred
abbrev pub IsSameBoard : Board → Board → Type 0
IsSameBoard board other = (other.network ≡ board.network) × (other.alarms ≡ board.alarms) × (other.lit.items ≡ board.lit.items) × (other.preferred ≡ board.preferred)

-- one universe more can be merged
abbrev pub has_room : Board → Bool
has_room b = nat_lt (length b.lit.items) MAX_LIT

abbrev pub is_merged : ℕ → Board → Bool
is_merged universe b = is_some (find (λ lit. lit.universe == universe) b.lit.items)

-- the universe that is shown is merged, or there is room for it
abbrev pub serves_one : Option ℕ → Board → Bool
serves_one None b = has_room b
serves_one (Some universe) b = has_room b || is_merged universe b

abbrev pub serves : Option ℕ → Board → Bool
serves named b = serves_one (universe_shown named b.preferred b.network.monitor.streams) b
