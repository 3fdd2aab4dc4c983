use Rattle.std.proofs.Common.{◌≡◌, map, take}
use Rattle.sacn_slots.specs.SlotMerge.{priority_of_slot}
use Rattle.sacn_slots.specs.SlotLayers.{member_of}
use Rattle.sacn_slots.proofs.priority.priority_of_slot.Given as goal

-- the greatest priority of the layers so far
abbrev pub invariant-loop-layer : goal.invariant-loop-layer
invariant-loop-layer l = record {
  raised : l.top ≡ priority_of_slot (map member_of (take l.layer-index l.layers)) l.slot;
}
