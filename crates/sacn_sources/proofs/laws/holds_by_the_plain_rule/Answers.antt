use Rattle.sacn_sources.proofs.Histories.{holds_by_the_plain_rule}
use Rattle.sacn_sources.proofs.laws.holds_by_the_plain_rule.Goals as goal

pub returns : goal.returns
returns c = holds_by_the_plain_rule
