use Rattle.std.proofs.Common.{ℕ, ◌<◌, get_or}
use Rattle.sacn_patch.specs.declared.flat.Mark.{Mark}
use Rattle.sacn_patch.specs.Flat.{IsThere}
use Rattle.sacn_patch.proofs.flat.reach_of.Given as goal

abbrev pub invariant-loop-place : goal.invariant-loop-place
invariant-loop-place l = (k : ℕ) (d : Mark) → k < l.place → IsThere l.reach (get_or l.marks k d)
