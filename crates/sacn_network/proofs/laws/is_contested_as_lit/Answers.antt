use Rattle.sacn_network.proofs.Exact.{contested_as_lit}
use Rattle.sacn_network.proofs.laws.is_contested_as_lit.Goals as goal

pub returns : goal.returns
returns c = contested_as_lit
