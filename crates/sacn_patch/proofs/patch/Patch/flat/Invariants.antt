use Rattle.std.proofs.Common.{◌≡◌, ◌++◌}
use Rattle.sacn_patch.proofs.patch.Patch.flat.Given as goal

abbrev pub invariant-loop-place : goal.invariant-loop-place
invariant-loop-place l = l.row.items ++ l.place-iterator ≡ l.initial.place-iterator
