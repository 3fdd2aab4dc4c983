use Rattle.sacn_world.proofs.PresentLives.{what_is_due}
use Rattle.sacn_world.proofs.laws.consoles_do_what_is_due.Goals as goal

pub returns : goal.returns
returns c = what_is_due c.steps_are_the_list.ensures
