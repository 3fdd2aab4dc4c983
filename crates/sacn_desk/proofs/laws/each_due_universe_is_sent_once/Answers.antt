use Rattle.sacn_desk.proofs.FairRounds.{once, each_due}
use Rattle.sacn_desk.proofs.laws.each_due_universe_is_sent_once.Goals as goal

pub returns-clause-once : goal.returns-clause-once
returns-clause-once c = once

pub returns-clause-given : goal.returns-clause-given
returns-clause-given c = each_due
