use Rattle.std.proofs.Common.{◌-◌, ◌≤◌}
use Rattle.sacn_capture.specs.Inputs.{LeavesOut}
use Rattle.sacn_capture.proofs.input.leave_out.Given as goal

-- what was left out so far, and what is left
abbrev pub invariant-loop-left : goal.invariant-loop-left
invariant-loop-left g l = (l.left ≤ l.count) × LeavesOut (g.R.Read.remaining l.fn.reader) (g.R.Read.remaining l.reader) (l.count - l.left)

abbrev pub decreases-loop-left : goal.decreases-loop-left
decreases-loop-left g l = l.left
