use Rattle.sacn_network.proofs.Tracking.{tick_leaves_none}
use Rattle.sacn_network.proofs.laws.a_tick_leaves_none.Goals as goal

pub returns : goal.returns
returns c = tick_leaves_none
