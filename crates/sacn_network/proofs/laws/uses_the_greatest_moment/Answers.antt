use Rattle.sacn_network.proofs.Tracking.{uses_the_greatest}
use Rattle.sacn_network.proofs.laws.uses_the_greatest_moment.Goals as goal

pub returns : goal.returns
returns c = uses_the_greatest
