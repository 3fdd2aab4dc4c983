use Rattle.sacn_source.proofs.Lists.{steps_are_the_list}
use Rattle.sacn_source.proofs.laws.steps_are_the_list.Goals as goal

pub returns : goal.returns
returns c = steps_are_the_list
