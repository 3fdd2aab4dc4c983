use Rattle.sacn_capture.proofs.Powers.{some_power}
use Rattle.sacn_capture.proofs.clock.power.Goals as goal

pub returns-clause-some : goal.returns-clause-some
returns-clause-some c = some_power c.checked_pow.result c.args.base c.args.exponent c.requires c.checked_pow.ensures
