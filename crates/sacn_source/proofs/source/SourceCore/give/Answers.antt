use Rattle.std.proofs.Common.{Some, ap, ◌∙◌}
use Rattle.std.specs.Option.{option_map}
use Rattle.sacn_console.specs.Core.{page_of_length}
use Rattle.sacn_source.specs.Source.{page_due}
use Rattle.sacn_source.proofs.Cores.{due_packet, due_page, page_told}
use Rattle.sacn_source.proofs.source.SourceCore.give.Goals as goal

pub returns-in-Some-clause-answer : goal.returns-in-Some-clause-answer
returns-in-Some-clause-answer c = rw (due_packet c.args.self.now c.in-Some.place c.in-Some.ensures.found.1) (rw c.in-Some.ensures.core at (ap Some c.give_packet.ensures.answer))

pub returns-in-Some-clause-octets : goal.returns-in-Some-clause-octets
returns-in-Some-clause-octets c = rw (due_packet c.args.self.now c.in-Some.place c.in-Some.ensures.found.1) (rw c.in-Some.ensures.core at c.give_packet.ensures.octets)

pub returns-in-Some-clause-core : goal.returns-in-Some-clause-core
returns-in-Some-clause-core c = rw (due_packet c.args.self.now c.in-Some.place c.in-Some.ensures.found.1) (rw c.in-Some.ensures.core at c.give_packet.ensures.core)

pub returns-in-None-clause-answer : goal.returns-in-None-clause-answer
returns-in-None-clause-answer c = rw (due_page c.args.self.now c.in-None.ensures.found) (rw c.in-None.ensures.core at (c.page_of_length.ensures ∙ ap (option_map page_of_length) c.give_page.ensures.answer ∙ page_told (page_due c.due_place.new.self)))

pub returns-in-None-clause-octets : goal.returns-in-None-clause-octets
returns-in-None-clause-octets c = rw (due_page c.args.self.now c.in-None.ensures.found) (rw c.in-None.ensures.core at c.give_page.ensures.octets)

pub returns-in-None-clause-core : goal.returns-in-None-clause-core
returns-in-None-clause-core c = rw (due_page c.args.self.now c.in-None.ensures.found) (rw c.in-None.ensures.core at c.give_page.ensures.core)
