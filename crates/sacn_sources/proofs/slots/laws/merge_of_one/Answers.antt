use Rattle.sacn_sources.proofs.Merging.{merges_one_to_itself}
use Rattle.sacn_sources.proofs.slots.laws.merge_of_one.Goals as goal

pub returns : goal.returns
returns c = merges_one_to_itself
