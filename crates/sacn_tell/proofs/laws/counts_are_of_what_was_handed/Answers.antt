use Rattle.sacn_tell.proofs.Counts.{counts_are_of_what_was_handed}
use Rattle.sacn_tell.proofs.laws.counts_are_of_what_was_handed.Goals as goal

pub returns : goal.returns
returns c = counts_are_of_what_was_handed
