use Rattle.sacn_gateway.proofs.PlainLines.{lines_same, text_same, stops_same}
use Rattle.sacn_gateway.proofs.laws.lines_are_by_the_plain_rule.Goals as goal

pub returns-clause-lines : goal.returns-clause-lines
returns-clause-lines c = lines_same c.answers_by_the_plain_rule.ensures c.keeps_its_ports.ensures c.moment_is_the_greatest.ensures

pub returns-clause-text : goal.returns-clause-text
returns-clause-text c = text_same c.answers_by_the_plain_rule.ensures c.keeps_its_ports.ensures c.moment_is_the_greatest.ensures

pub returns-clause-stops : goal.returns-clause-stops
returns-clause-stops c = stops_same c.answers_by_the_plain_rule.ensures c.keeps_its_ports.ensures c.moment_is_the_greatest.ensures
