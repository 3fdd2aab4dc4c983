use Rattle.std.proofs.Common.{rules, arith, ap, sym, ◌∙◌, slice_set}
use Rattle.std.proofs.lemmas.Option.{slice_get_read}
use Rattle.sacn_world.proofs.Marks.{noted_here}
use Rattle.sacn_world.proofs.mark.note.Goals as goal

pub returns-then-is_of : goal.returns-then-is_of
returns-then-is_of c =
    let ms = c.loop-place.marks in
    let e = slice_get_read ms.items ms.len c.loop-place.place c.index.result.now (search rules) (omega arith) c.index.ensures in
    ap (λ x. slice_set ms.items c.loop-place.place x) c.mark_after.ensures
    ∙ noted_here c.args.moves c.args.came.now ms.items c.loop-place.place c.index.result.now e (sym c.is_of.ensures ∙ c.if-is_of.true)
    ∙ c.loop-place.invariant.0
