use Rattle.sacn_sources.proofs.Merging.{merges_the_set}
use Rattle.sacn_sources.proofs.slots.laws.merge_is_of_a_set.Goals as goal

pub returns : goal.returns
returns c = merges_the_set
