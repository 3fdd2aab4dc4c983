use Rattle.std.proofs.Common.{map, arith}
use Rattle.std.proofs.lemmas.List.FromFn.{fill_by_all}
use Rattle.sacn_sources.specs.Merge.{merged_level}
use Rattle.sacn_slots.specs.SlotMerge.{taking_part, merge_by_slot}
use Rattle.sacn_slots.specs.SlotLayers.{member_of}
use Rattle.sacn_slots.proofs.plain.merge_by_slot.Goals as goal

pub returns : goal.returns
unfolding merge_by_slot
returns c = fill_by_all (λ slot. merged_level (taking_part slot (map member_of c.args.layers.now)) slot) c.loop-slot.slots 512 0 c.loop-slot.invariant.whole (λ k lt. c.loop-slot.invariant.merged k (omega (arith, c.loop-slot-test.false, c.told-slots, lt)))
