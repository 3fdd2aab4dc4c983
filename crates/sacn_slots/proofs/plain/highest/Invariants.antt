use Rattle.std.proofs.Common.{◌≡◌, map, take}
use Rattle.sacn_sources.specs.Merge.{highest_at}
use Rattle.sacn_slots.specs.SlotMerge.{taking_part}
use Rattle.sacn_slots.specs.SlotLayers.{member_of}
use Rattle.sacn_slots.proofs.plain.highest.Given as goal

-- the highest level of the layers so far
abbrev pub invariant-loop-layer : goal.invariant-loop-layer
invariant-loop-layer l = record {
  raised : l.high ≡ highest_at l.priority (taking_part l.slot (map member_of (take l.layer-index l.layers))) l.slot;
}
