-- Who gives a slot its level: the sources of the greatest priority are followed (E1.31, 6.2.3), and of those that have the
-- merged level there the first by CID is named (profile). Rows stand in the order of their CIDs.
use Rattle.std.specs.Prelude.{ℕ, ◌==◌, ◌&&◌, not, Bool, false, List, map, find, slice_get, slice_index, Option, Some, None, option_map, option_and_then, if◌then◌else◌}
use Rattle.std.specs.List.{range_with_len}
use Rattle.sacn_sources.specs.Merge.{Shown, level, top_priority}
use Rattle.sacn_sources.specs.Rows.{Row, layers, slots_of}

-- what is shown is of this priority, and has the merged level at the slot
abbrev pub gives : ℕ → ℕ → ℕ → Option Shown → Bool
gives top slot merged None = false
gives top slot merged (Some shown) = (shown.priority == top) && (level slot shown == merged)

-- the CID of the first row that gives it, and none where the merged level is 0
abbrev pub first_giver : ℕ → ℕ → ℕ → List Row → Option (List ℕ)
first_giver top slot merged rs = if merged == 0 then None else option_map (λ r. r.source) (find (λ r. gives top slot merged r.shown) rs)

abbrev pub giver_of : List Row → ℕ → Option (List ℕ)
giver_of rs slot = first_giver (top_priority (layers rs)) slot (slice_index (slots_of rs) slot) rs

-- slot by slot
unfoldable pub givers_of : List Row → List (Option (List ℕ))
givers_of rs = map (giver_of rs) (range_with_len 0 512)

-- the giver at a place in a list of CIDs, if there is one
abbrev pub giver_in : List (List ℕ) → Option ℕ → Option (List ℕ)
giver_in cids place = option_and_then (slice_get cids) place

-- the place that a slot has once a source at this place took what it gives: the merged level where it is its own, and above 0
abbrev pub given_to : ℕ → ℕ → ℕ → Option ℕ → Option ℕ
given_to place merged own before = if (not (merged == 0)) && (own == merged) then Some place else before
