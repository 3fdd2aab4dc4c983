use Rattle.sacn_edge.proofs.PlainTexts.{text_same}
use Rattle.sacn_edge.proofs.laws.text_is_by_the_plain_rule.Goals as goal

pub returns : goal.returns
returns c = text_same c.answers_by_the_plain_rule.ensures c.keeps_its_ports.ensures c.moment_is_the_greatest.ensures
