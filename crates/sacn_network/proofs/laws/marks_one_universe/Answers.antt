use Rattle.sacn_network.proofs.Bits.{marks_one}
use Rattle.sacn_network.proofs.laws.marks_one_universe.Goals as goal

pub returns : goal.returns
returns c = marks_one
