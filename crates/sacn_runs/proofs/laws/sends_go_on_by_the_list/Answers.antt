use Rattle.sacn_runs.proofs.Requests.{sends_go_on}
use Rattle.sacn_runs.proofs.laws.sends_go_on_by_the_list.Goals as goal

pub returns : goal.returns
returns c = sends_go_on c.steps_are_the_list.ensures
