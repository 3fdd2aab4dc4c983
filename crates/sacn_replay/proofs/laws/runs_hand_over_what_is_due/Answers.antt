use Rattle.sacn_replay.proofs.Handing.{hands_what_is_due}
use Rattle.sacn_replay.proofs.laws.runs_hand_over_what_is_due.Goals as goal

pub returns : goal.returns
returns c = hands_what_is_due
