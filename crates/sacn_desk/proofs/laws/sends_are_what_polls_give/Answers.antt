use Rattle.sacn_desk.proofs.FairRounds.{sends_given, desk_sends_given}
use Rattle.sacn_desk.proofs.laws.sends_are_what_polls_give.Goals as goal

pub returns-clause-reading : goal.returns-clause-reading
returns-clause-reading c = sends_given

pub returns-clause-rounds : goal.returns-clause-rounds
returns-clause-rounds c = desk_sends_given
