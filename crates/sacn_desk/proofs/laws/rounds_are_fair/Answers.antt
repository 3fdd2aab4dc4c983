use Rattle.sacn_desk.proofs.FairDesks.{short_fair, rounds_fair, shows_fair}
use Rattle.sacn_desk.proofs.laws.rounds_are_fair.Goals as goal

pub returns-clause-shows : goal.returns-clause-shows
returns-clause-shows c = shows_fair

pub returns-clause-few : goal.returns-clause-few
returns-clause-few c = rounds_fair

pub returns-clause-short : goal.returns-clause-short
returns-clause-short c = short_fair
