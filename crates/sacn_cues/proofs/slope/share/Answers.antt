use Rattle.std.proofs.Common.{arith}
use Rattle.sacn_cues.proofs.Slopes.{shared, fits, shared_within}
use Rattle.sacn_cues.proofs.slope.share.Goals as goal

pub overflow_mul-result-else-time-gt-LONGEST : goal.overflow_mul-result-else-time-gt-LONGEST
overflow_mul-result-else-time-gt-LONGEST c =
    let h = fits c.args.far c.args.elapsed c.args.time c.args.slope (omega (arith, c.ranges.far.fits)) c.requires.early (omega (arith, c.if-time-gt-LONGEST.false)) (c.requires.slope (omega (arith, c.if-time-gt-LONGEST.false))) in
    omega (arith, h)

pub overflow_cast-result-else-time-gt-LONGEST : goal.overflow_cast-result-else-time-gt-LONGEST
overflow_cast-result-else-time-gt-LONGEST c =
    let h = shared_within c.args.far c.args.elapsed c.args.time c.args.slope c.requires.early (omega (arith, c.if-time-gt-LONGEST.false)) (c.requires.slope (omega (arith, c.if-time-gt-LONGEST.false))) in
    omega (arith, h, c.ranges.far.fits)

pub returns-else-time-gt-LONGEST-clause-part : goal.returns-else-time-gt-LONGEST-clause-part
returns-else-time-gt-LONGEST-clause-part c = shared c.args.far c.args.elapsed c.args.time c.args.slope c.requires.early (omega (arith, c.if-time-gt-LONGEST.false)) (c.requires.slope (omega (arith, c.if-time-gt-LONGEST.false)))

pub returns-else-time-gt-LONGEST-clause-bound : goal.returns-else-time-gt-LONGEST-clause-bound
returns-else-time-gt-LONGEST-clause-bound c = shared_within c.args.far c.args.elapsed c.args.time c.args.slope c.requires.early (omega (arith, c.if-time-gt-LONGEST.false)) (c.requires.slope (omega (arith, c.if-time-gt-LONGEST.false)))
