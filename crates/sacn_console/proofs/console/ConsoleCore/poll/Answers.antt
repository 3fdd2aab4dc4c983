use Rattle.sacn_console.proofs.Dues.{len_told, none_told}
use Rattle.sacn_console.proofs.console.ConsoleCore.poll.Goals as goal

pub returns-in-Some-clause-answer : goal.returns-in-Some-clause-answer
returns-in-Some-clause-answer c = len_told _ c.in-Some.given c.in-Some.ensures.answer

pub returns-in-None-clause-answer : goal.returns-in-None-clause-answer
returns-in-None-clause-answer c = none_told _ c.in-None.ensures.answer
