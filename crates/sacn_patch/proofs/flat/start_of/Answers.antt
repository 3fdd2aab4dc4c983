use Rattle.std.proofs.Common.{arith}
use Rattle.sacn_patch.proofs.Rows.{below_more, from_more}
use Rattle.sacn_patch.proofs.flat.start_of.Goals as goal

pub loop-low-preserved-then-at-universe : goal.loop-low-preserved-then-at-universe
loop-low-preserved-then-at-universe c = (
  below_more c.args.universe _ c.args.row.now _ c.requires (omega (arith, c.loop-low.invariant.1, c.loop-low.invariant.2, c.loop-low-test.true)) c.if-at-universe.true,
  omega (arith, c.loop-low.invariant.1, c.loop-low.invariant.2, c.loop-low-test.true),
  c.loop-low.invariant.2,
  c.loop-low.invariant.3,
)

pub loop-low-preserved : goal.loop-low-preserved
loop-low-preserved c = (
  c.loop-low.invariant.0,
  omega (arith, c.loop-low.invariant.1, c.loop-low-test.true),
  omega (arith, c.loop-low.invariant.1, c.loop-low.invariant.2, c.loop-low-test.true),
  from_more c.args.universe _ c.args.row.now _ c.requires c.if-at-universe.false,
)
