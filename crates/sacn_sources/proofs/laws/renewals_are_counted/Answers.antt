use Rattle.sacn_sources.proofs.Histories.{counts_renewals}
use Rattle.sacn_sources.proofs.laws.renewals_are_counted.Goals as goal

pub returns : goal.returns
returns c = counts_renewals
