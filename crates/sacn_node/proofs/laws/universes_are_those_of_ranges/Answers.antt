use Rattle.sacn_node.proofs.PortUniverses.{has_the_universes_of_its_ranges}
use Rattle.sacn_node.proofs.laws.universes_are_those_of_ranges.Goals as goal

pub returns : goal.returns
returns c = has_the_universes_of_its_ranges
