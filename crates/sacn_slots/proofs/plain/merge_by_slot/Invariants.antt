use Rattle.std.proofs.Common.{◌≡◌, ℕ, ◌<◌, get_or, map, length}
use Rattle.sacn_sources.specs.Merge.{merged_level}
use Rattle.sacn_slots.specs.SlotMerge.{taking_part}
use Rattle.sacn_slots.specs.SlotLayers.{member_of}
use Rattle.sacn_slots.proofs.plain.merge_by_slot.Given as goal

-- the slots so far are merged
abbrev pub invariant-loop-slot : goal.invariant-loop-slot
invariant-loop-slot l = record {
  whole : length l.slots ≡ 512;
  merged : (k : ℕ) → k < l.slot → get_or l.slots k 0 ≡ merged_level (taking_part k (map member_of l.layers)) k;
}
