use Rattle.sacn_cues.proofs.Replies.{answers_follow}
use Rattle.sacn_cues.proofs.laws.answers_follow_the_calls.Goals as goal

pub returns : goal.returns
returns c = answers_follow
