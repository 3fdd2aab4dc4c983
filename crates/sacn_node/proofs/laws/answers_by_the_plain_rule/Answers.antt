use Rattle.sacn_node.proofs.PlainAnswers.{answers_by_the_plain_rule}
use Rattle.sacn_node.proofs.laws.answers_by_the_plain_rule.Goals as goal

pub returns : goal.returns
returns c = answers_by_the_plain_rule c.answers_by_the_plain_rule.ensures
