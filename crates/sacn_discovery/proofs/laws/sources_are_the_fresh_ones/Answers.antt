use Rattle.sacn_discovery.proofs.KnownLists.{sources_are_the_fresh_ones}
use Rattle.sacn_discovery.proofs.laws.sources_are_the_fresh_ones.Goals as goal

pub returns : goal.returns
returns c = sources_are_the_fresh_ones
