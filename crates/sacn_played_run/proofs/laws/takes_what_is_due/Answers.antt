use Rattle.sacn_played_run.proofs.Heard.{takes_due}
use Rattle.sacn_played_run.proofs.laws.takes_what_is_due.Goals as goal

pub returns : goal.returns
returns c = takes_due
