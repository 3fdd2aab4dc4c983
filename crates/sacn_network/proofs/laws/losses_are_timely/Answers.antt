use Rattle.sacn_network.proofs.Timely.{losses_are_timely}
use Rattle.sacn_network.proofs.laws.losses_are_timely.Goals as goal

pub returns : goal.returns
returns c = losses_are_timely
