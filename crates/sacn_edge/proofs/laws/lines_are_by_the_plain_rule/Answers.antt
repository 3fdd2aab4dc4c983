use Rattle.sacn_edge.proofs.PlainTexts.{lines_same, stops_same}
use Rattle.sacn_edge.proofs.laws.lines_are_by_the_plain_rule.Goals as goal

pub returns-clause-lines : goal.returns-clause-lines
returns-clause-lines c = lines_same c.answers_by_the_plain_rule.ensures c.keeps_its_ports.ensures c.moment_is_the_greatest.ensures

pub returns-clause-stops : goal.returns-clause-stops
returns-clause-stops c = stops_same c.answers_by_the_plain_rule.ensures c.keeps_its_ports.ensures c.moment_is_the_greatest.ensures
