use Rattle.std.proofs.Common.{◌<◌, None, length, map, get_or, set, ap, sym, ◌∙◌, arith, inl, inr}
use Rattle.std.proofs.lemmas.Bool.{cases_eq}
use Rattle.std.proofs.lemmas.List.{ext_get_or, length-map, length-set, get_or-map, get_or-set_same, get_or-set_other}
use Rattle.sacn_page.specs.Marks.{mark_of}
use Rattle.sacn_page.proofs.members.marks_of.Goals as goal

pub loop-slot-preserved : goal.loop-slot-preserved
loop-slot-preserved c =
    let slot = c.loop-slot.slot in
    let marks = c.loop-slot.marks in
    let mark = c.mark_of.result in
    let within : slot < length marks = omega (arith, c.loop-slot.invariant.whole, c.loop-slot-test.true) in
    record {
      whole = length-set marks slot mark ∙ c.loop-slot.invariant.whole;
      so_far = λ k lt. elim (cases_eq k slot) [
        | inl here ↦
            ap (λ q. get_or (set marks slot mark) q 0) here
            ∙ get_or-set_same marks slot mark 0 within
            ∙ c.mark_of.ensures
            ∙ ap (λ q. mark_of (get_or c.args.places.now q None)) (sym here)
        | inr differs ↦ get_or-set_other marks slot k mark 0 differs ∙ c.loop-slot.invariant.so_far k (omega arith)
      ];
    }

pub returns : goal.returns
returns c =
    let places = c.args.places.now in
    ext_get_or 0 c.loop-slot.marks (map mark_of places) (c.loop-slot.invariant.whole ∙ sym (length-map places mark_of ∙ c.told-places))
    (λ k lt. c.loop-slot.invariant.so_far k (omega (arith, c.loop-slot.invariant.whole, c.loop-slot-test.false)) ∙ sym (get_or-map mark_of places k None 0 (omega (arith, c.loop-slot.invariant.whole, c.told-places))))
