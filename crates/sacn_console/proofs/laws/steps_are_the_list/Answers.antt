use Rattle.sacn_console.proofs.CoreInvariant.{steps_are_the_list}
use Rattle.sacn_console.proofs.laws.steps_are_the_list.Goals as goal

pub returns : goal.returns
returns c = steps_are_the_list c.readings_show_the_levels.ensures c.steps_follow_the_calls.ensures
