use Rattle.sacn_edge.proofs.ListSends.{sends_by_list}
use Rattle.sacn_edge.proofs.laws.sends_are_by_the_list.Goals as goal

pub returns : goal.returns
returns c = sends_by_list c.steps_are_the_list.ensures
