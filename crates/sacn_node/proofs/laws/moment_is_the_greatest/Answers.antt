use Rattle.sacn_node.proofs.PlainAnswers.{uses_the_greatest_moment}
use Rattle.sacn_node.proofs.laws.moment_is_the_greatest.Goals as goal

pub returns : goal.returns
returns c = uses_the_greatest_moment
