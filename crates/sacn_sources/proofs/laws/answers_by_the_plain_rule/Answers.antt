use Rattle.sacn_sources.proofs.Histories.{answers_by_the_plain_rule}
use Rattle.sacn_sources.proofs.laws.answers_by_the_plain_rule.Goals as goal

pub returns : goal.returns
returns c = answers_by_the_plain_rule
