use Rattle.sacn_slots.proofs.SetMerging.{merges_by_slot_by_relation}
use Rattle.sacn_slots.proofs.laws.merge_by_slot_is_highest.Goals as goal

pub returns : goal.returns
returns c = merges_by_slot_by_relation c.merge_is_highest.ensures
