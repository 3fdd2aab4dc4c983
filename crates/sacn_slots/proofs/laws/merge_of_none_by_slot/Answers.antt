use Rattle.sacn_slots.proofs.SetMerging.{merges_none_to_zero}
use Rattle.sacn_slots.proofs.laws.merge_of_none_by_slot.Goals as goal

pub returns : goal.returns
returns c = merges_none_to_zero
