use Rattle.sacn_monitor.proofs.Tracking.{moments}
use Rattle.sacn_monitor.proofs.laws.uses_the_greatest_moment.Goals as goal

pub returns : goal.returns
returns c = moments
