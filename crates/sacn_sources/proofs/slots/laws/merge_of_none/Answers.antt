use Rattle.sacn_sources.proofs.Merging.{merges_nothing_to_zeros}
use Rattle.sacn_sources.proofs.slots.laws.merge_of_none.Goals as goal

pub returns : goal.returns
returns c = merges_nothing_to_zeros
