use Rattle.sacn_discovery.proofs.ExpiredSources.{expiry_counts_those_that_get_old}
use Rattle.sacn_discovery.proofs.laws.expiry_counts_those_that_get_old.Goals as goal

pub returns : goal.returns
returns c = expiry_counts_those_that_get_old
