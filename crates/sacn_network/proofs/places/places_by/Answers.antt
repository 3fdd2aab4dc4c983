use Rattle.std.proofs.Common.{◌<◌, ℕ, None, Option, length, map, get_or, set, option_and_then, ap, sym, ◌∙◌, arith, inl, inr}
use Rattle.std.proofs.lemmas.Bool.{cases_eq}
use Rattle.std.proofs.lemmas.List.{ext_get_or, length-map, length-set, get_or-map, get_or-set_same, get_or-set_other}
use Rattle.sacn_network.proofs.places.places_by.Goals as goal

pub loop-slot-preserved : goal.loop-slot-preserved
loop-slot-preserved c =
    let slot = c.loop-slot.slot in
    let by_slot = c.loop-slot.by_slot in
    let place = c.place_at.result in
    let of : Option ℕ → Option ℕ = option_and_then (λ at. get_or c.args.places.now at None) in
    let within : slot < length by_slot = omega (arith, c.loop-slot.invariant.whole, c.loop-slot-test.true) in
    record {
      whole = length-set by_slot slot place ∙ c.loop-slot.invariant.whole;
      so_far = λ k lt. elim (cases_eq k slot) [
        | inl here ↦
            ap (λ q. get_or (set by_slot slot place) q None) here
            ∙ get_or-set_same by_slot slot place None within
            ∙ c.place_at.ensures
            ∙ ap (λ q. of (get_or c.args.of_slots.now q None)) (sym here)
        | inr differs ↦ get_or-set_other by_slot slot k place None differs ∙ c.loop-slot.invariant.so_far k (omega arith)
      ];
    }

pub returns : goal.returns
returns c =
    let slots = c.args.of_slots.now in
    let of : Option ℕ → Option ℕ = option_and_then (λ at. get_or c.args.places.now at None) in
    ext_get_or None c.loop-slot.by_slot (map of slots) (c.loop-slot.invariant.whole ∙ sym (length-map slots of ∙ c.told-of_slots))
    (λ k lt. c.loop-slot.invariant.so_far k (omega (arith, c.loop-slot.invariant.whole, c.loop-slot-test.false)) ∙ sym (get_or-map of slots k None None (omega (arith, c.loop-slot.invariant.whole, c.told-of_slots))))
