use Rattle.sacn_sources.proofs.Merging.{merges_by_relation}
use Rattle.sacn_sources.proofs.slots.laws.merge_is_highest.Goals as goal

pub returns : goal.returns
returns c = merges_by_relation
