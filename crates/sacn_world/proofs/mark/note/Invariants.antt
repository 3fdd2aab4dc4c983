use Rattle.std.proofs.Common.{◌≡◌, ◌++◌, ◌<◌, take, drop, vec_len, vec_capacity}
use Rattle.sacn_world.specs.Watches.{marked}
use Rattle.sacn_world.proofs.mark.note.Given as goal

abbrev pub invariant-loop-place : goal.invariant-loop-place
invariant-loop-place l = (take l.place l.marks.items ++ marked l.moves l.came (drop l.place l.marks.items) ≡ marked l.moves l.came l.fn.marks.items) × (vec_len l.marks < vec_capacity l.marks)
