use Rattle.std.proofs.Common.{◌<◌, arith}
use Rattle.std.proofs.lemmas.Bool.{ltb-true}
use Rattle.sacn_tell.proofs.stage.Stage.sleeps_past.Goals as goal

pub returns : goal.returns
returns c known m by =
    let asleep : c.args.until < c.args.self.now.wake = ltb-true c.args.until c.args.self.now.wake known in
    c.args.self.now.awake m (omega (arith, by, asleep))
