use Rattle.sacn_console.proofs.LeastDue.{least_goes_first}
use Rattle.sacn_console.proofs.laws.least_goes_first.Goals as goal

pub returns : goal.returns
returns c = least_goes_first
