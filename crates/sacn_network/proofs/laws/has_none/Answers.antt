use Rattle.sacn_network.proofs.Bits.{has_none}
use Rattle.sacn_network.proofs.laws.has_none.Goals as goal

pub returns : goal.returns
returns c = has_none
