use Rattle.sacn_slots.proofs.SetMerging.{merges_the_set_by_slot}
use Rattle.sacn_slots.proofs.laws.merge_by_slot_is_of_a_set.Goals as goal

pub returns : goal.returns
returns c = merges_the_set_by_slot c.merge_is_of_a_set.ensures
