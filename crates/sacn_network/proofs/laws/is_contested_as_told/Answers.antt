use Rattle.sacn_network.proofs.Contesting.{contested_as_told}
use Rattle.sacn_network.proofs.laws.is_contested_as_told.Goals as goal

pub returns : goal.returns
returns c = contested_as_told
