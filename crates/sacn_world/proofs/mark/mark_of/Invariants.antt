use Rattle.std.proofs.Common.{◌≡◌, drop}
use Rattle.sacn_world.specs.Watches.{mark_of}
use Rattle.sacn_world.proofs.mark.mark_of.Given as goal

abbrev pub invariant-loop-mark : goal.invariant-loop-mark
invariant-loop-mark l = mark_of l.source l.universe (drop l.mark-index l.marks) ≡ mark_of l.source l.universe l.marks
