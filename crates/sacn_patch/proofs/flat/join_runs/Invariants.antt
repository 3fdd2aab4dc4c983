use Rattle.sacn_patch.specs.Flat.{Row, AreMarks}
use Rattle.sacn_patch.proofs.flat.join_runs.Given as goal

abbrev pub invariant-loop-behind : goal.invariant-loop-behind
invariant-loop-behind l = (row : Row) → AreMarks row l.fn.marks.items → AreMarks row l.marks.items
