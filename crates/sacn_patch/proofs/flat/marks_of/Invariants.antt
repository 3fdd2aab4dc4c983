use Rattle.std.proofs.Common.{◌≡◌, ◌++◌, map, drop}
use Rattle.sacn_patch.specs.Flat.{mark_of}
use Rattle.sacn_patch.proofs.flat.marks_of.Given as goal

abbrev pub invariant-loop-at : goal.invariant-loop-at
invariant-loop-at l = l.marks.items ++ map mark_of (drop l.at-index l.row) ≡ map mark_of l.row
