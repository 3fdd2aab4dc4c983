use Rattle.std.proofs.Common.{Some, ap}
use Rattle.sacn_source.proofs.Cores.{page_first}
use Rattle.sacn_source.proofs.source.SourceCore.give_page.Goals as goal

pub returns-in-None-clause-answer : goal.returns-in-None-clause-answer
returns-in-None-clause-answer c = rw (page_first _ c.args.self.now c.self.view_is c.in-None.is) (ap Some c.write_first.ensures.answer)

pub returns-in-None-clause-octets : goal.returns-in-None-clause-octets
returns-in-None-clause-octets c = rw (page_first _ c.args.self.now c.self.view_is c.in-None.is) c.write_first.ensures.octets

pub returns-in-None-clause-core : goal.returns-in-None-clause-core
returns-in-None-clause-core c = rw (page_first _ c.args.self.now c.self.view_is c.in-None.is) c.write_first.ensures.core
