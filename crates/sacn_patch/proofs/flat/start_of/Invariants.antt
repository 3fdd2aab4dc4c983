use Rattle.std.proofs.Common.{◌-◌, ◌≤◌, length}
use Rattle.sacn_patch.specs.Flat.{AllBelow, AllFrom}
use Rattle.sacn_patch.proofs.flat.start_of.Given as goal

abbrev pub invariant-loop-low : goal.invariant-loop-low
invariant-loop-low l = AllBelow l.universe l.row l.low × (l.low ≤ l.high) × (l.high ≤ length l.row) × AllFrom l.universe l.row l.high

abbrev pub decreases-loop-low : goal.decreases-loop-low
decreases-loop-low l = l.high - l.low
