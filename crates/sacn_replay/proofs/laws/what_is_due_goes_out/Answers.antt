use Rattle.sacn_replay.proofs.Turns.{what_is_due}
use Rattle.sacn_replay.proofs.laws.what_is_due_goes_out.Goals as goal

pub returns : goal.returns
returns c = what_is_due
