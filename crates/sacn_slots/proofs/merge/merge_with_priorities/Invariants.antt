use Rattle.std.proofs.Common.{◌≡◌, ℕ, ◌<◌, length, get_or, map, take}
use Rattle.sacn_sources.specs.Merge.{merged_level}
use Rattle.sacn_slots.specs.SlotMerge.{priority_of_slot, taking_part}
use Rattle.sacn_slots.specs.SlotLayers.{member_of}
use Rattle.sacn_slots.proofs.merge.merge_with_priorities.Given as goal

-- the layers so far are merged
abbrev pub invariant-loop-layer : goal.invariant-loop-layer
invariant-loop-layer l = record {
  whole_slots : length l.slots ≡ 512;
  whole_priorities : length l.priorities ≡ 512;
  followed : (k : ℕ) → k < 512 → get_or l.priorities k 0 ≡ priority_of_slot (map member_of (take l.layer-index l.layers)) k;
  merged : (k : ℕ) → k < 512 → get_or l.slots k 0 ≡ merged_level (taking_part k (map member_of (take l.layer-index l.layers))) k;
}
