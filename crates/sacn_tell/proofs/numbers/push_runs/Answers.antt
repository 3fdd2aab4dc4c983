use Rattle.sacn_tell.proofs.Runs.{started}
use Rattle.sacn_tell.proofs.numbers.push_runs.Goals as goal

pub loop-number-init : goal.loop-number-init
loop-number-init c = started _ c.of-run.result c.args.first c.args.rest.now c.of-run.ensures.first c.of-run.ensures.last
