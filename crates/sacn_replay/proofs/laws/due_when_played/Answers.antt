use Rattle.sacn_replay.proofs.Dues.{due_when_played}
use Rattle.sacn_replay.proofs.laws.due_when_played.Goals as goal

pub returns : goal.returns
returns c = due_when_played
