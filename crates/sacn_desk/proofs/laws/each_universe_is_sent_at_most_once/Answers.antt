use Rattle.sacn_desk.proofs.FairRounds.{at_most_once}
use Rattle.sacn_desk.proofs.laws.each_universe_is_sent_at_most_once.Goals as goal

pub returns : goal.returns
returns c = at_most_once
