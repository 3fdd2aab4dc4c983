use Rattle.sacn_slots.proofs.SetMerging.{priorities_by_relation}
use Rattle.sacn_slots.proofs.laws.priorities_are_given.Goals as goal

pub returns : goal.returns
returns c = priorities_by_relation
