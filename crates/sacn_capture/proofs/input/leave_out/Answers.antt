use Rattle.std.proofs.Common.{◌≤◌, ◌-◌, arith}
use Rattle.sacn_capture.proofs.LeftOut.{left_out_more}
use Rattle.sacn_capture.proofs.input.leave_out.Goals as goal

pub loop-left-preserved : goal.loop-left-preserved
loop-left-preserved g c =
    let step : c.min-step.result ≤ c.loop-left.left = omega (arith, c.min-step.ensures) in (
      omega (arith, step, c.loop-left.invariant.0),
      left_out_more (g.R.Read.remaining c.args.reader.now) (g.R.Read.remaining c.loop-left.reader) (g.R.Read.remaining c.leave_piece.new.reader)
          (c.args.count - c.loop-left.left) c.min-step.result (c.args.count - (c.loop-left.left - c.min-step.result)) c.loop-left.invariant.1 c.in_ok-leave_piece.ensures.octets
          (omega (arith, step, c.loop-left.invariant.0)),
    )
