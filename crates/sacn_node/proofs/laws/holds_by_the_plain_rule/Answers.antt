use Rattle.sacn_node.proofs.PlainAnswers.{holds_by_the_plain_rule}
use Rattle.sacn_node.proofs.laws.holds_by_the_plain_rule.Goals as goal

pub returns : goal.returns
returns c = holds_by_the_plain_rule c.holds_by_the_plain_rule.ensures
