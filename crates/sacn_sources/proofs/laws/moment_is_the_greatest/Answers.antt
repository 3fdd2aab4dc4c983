use Rattle.sacn_sources.proofs.Bounds.{uses_the_greatest_moment}
use Rattle.sacn_sources.proofs.laws.moment_is_the_greatest.Goals as goal

pub returns : goal.returns
returns c = uses_the_greatest_moment
