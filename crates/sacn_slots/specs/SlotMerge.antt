-- The merge of sources of which some give priorities for single slots (start code 0xDD, by its registered use).
use Rattle.std.specs.Prelude.{ℕ, nat_lt, ◌||◌, ◌==◌, List, map, filter_map, slice_index, Option, Some, None, option_map, if◌then◌else◌}
use Rattle.std.specs.List.{range_with_len}
use Rattle.sacn_packets.specs.declared.universe.TheConstants.{SLOTS, MAX_PRIORITY}
use Rattle.sacn_sources.specs.Merge.{Shown, top_priority, merged_level}

-- what a source shows, and the priorities that it gave for its slots, from slot 0 on, if it gave any
pub record Member : Type 0 where
  pub shown : Shown
  pub slot_priorities : Option (List ℕ)

-- the priority at which a source takes part in a slot, if it does: the packet's, or where it gave any for slots the slot's, if
-- that is from 1 to 200; past the end of those that it gave it is 0
abbrev pub priority_at : ℕ → ℕ → Option (List ℕ) → Option ℕ
priority_at slot priority None = Some priority
priority_at slot priority (Some given) =
    if (slice_index given slot == 0) || nat_lt MAX_PRIORITY (slice_index given slot) then None else Some (slice_index given slot)

-- what a source shows for a slot, at its priority there
abbrev pub shown_at : ℕ → Member → Option Shown
shown_at slot m = option_map (λ p. record { priority = p; levels = m.shown.levels }) (priority_at slot m.shown.priority m.slot_priorities)

-- the sources that take part in a slot, each at its priority there
abbrev pub taking_part : ℕ → List Member → List Shown
taking_part slot members = filter_map (shown_at slot) members

-- each slot is the merge of the sources that take part in it
unfoldable pub merge_by_slot : List Member → List ℕ
merge_by_slot members = map (λ slot. merged_level (taking_part slot members) slot) (range_with_len 0 SLOTS)

-- the priority that is followed in a slot, 0 where no source takes part
abbrev pub priority_of_slot : List Member → ℕ → ℕ
priority_of_slot members slot = top_priority (taking_part slot members)
