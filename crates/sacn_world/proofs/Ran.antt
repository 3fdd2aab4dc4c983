-- Runs, event by event.
use Rattle.std.proofs.Common.{get_or, ◌≡◌, ℕ, zero, suc, ◌+◌, ◌<◌, true, List, [], ◌∷◌, ◌++◌, take, length, Some, None, Ok, Err, refl, sym, ap, subst, ◌∙◌, inl, ◌⊎◌, arith, slice_get}
use Rattle.std.proofs.lemmas.Option.{same_Some}
use Rattle.sacn_world.specs.declared.answer.Answer.{Answer}
use Rattle.sacn_schedule.specs.declared.event.Event.{Event}
use Rattle.sacn_world.specs.declared.fault.WorldFault.{WorldFault}
use Rattle.sacn_world.specs.declared.fault.WorldFault.TheVariants.{OutOfMemory}
use Rattle.sacn_world.specs.Worlds.{World, Step, step, takes_memory, after, left_by}
use Rattle.sacn_world.specs.Invariants.{IsAccepted, SteppedBy}
use Rattle.sacn_world.specs.Runs.{Ran, answered_first, first_then, ran, Stopped}

pub take_more : {X : Type 0} (xs : List X) (i : ℕ) (x : X) → slice_get xs i ≡ Some x → take (i + 1) xs ≡ take i xs ++ x ∷ []
take_more [] i x e = absurd (cc)
take_more (y ∷ ys) zero x e = ap (λ z. z ∷ []) (same_Some y x e)
take_more (y ∷ ys) (suc i) x e =
    let n : suc i + 1 ≡ suc (i + 1) = omega arith in
    ap (λ k. take k (y ∷ ys)) n ∙ ap (λ zs. y ∷ zs) (take_more ys i x e)

-- after the first event, where the rest goes on so
abbrev GoesOn : List Event → Event → Type 0
GoesOn es e = (w : World) (al : List Answer) (v : World) (a : Answer) (u : World) → ran w es ≡ Some (record { answers = al; world = v }) → step v e ≡ Ok (record { answer = a; world = u }) → ran w (es ++ e ∷ []) ≡ Some (record { answers = al ++ a ∷ []; world = u })

first_more : (t : Step) (es : List Event) (e : Event) → GoesOn es e → (al : List Answer) (v : World) (a : Answer) (u : World) → first_then t (λ y. ran y es) ≡ Some (record { answers = al; world = v }) → step v e ≡ Ok (record { answer = a; world = u }) → first_then t (λ y. ran y (es ++ e ∷ [])) ≡ Some (record { answers = al ++ a ∷ []; world = u })
first_more (Err f) es e on al v a u h s = absurd (cc)
first_more (Ok o) es e on al v a u h s =
    elim (ran o.world es) as (λ r. ran o.world es ≡ r → answered_first o.answer r ≡ Some (record { answers = al; world = v }) → answered_first o.answer (ran o.world (es ++ e ∷ [])) ≡ Some (record { answers = al ++ a ∷ []; world = u })) [
      | None ↦ λ g h'. absurd (cc)
      | Some r ↦ λ g h'.
          let q = same_Some _ _ h' in
          let ea : o.answer ∷ r.answers ≡ al = ap (λ (x : Ran). x.answers) q in
          let ew : r.world ≡ v = ap (λ (x : Ran). x.world) q in
          let rest = on o.world r.answers r.world a u g (ap (λ y. step y e) ew ∙ s) in
          ap (answered_first o.answer) rest ∙ ap (λ xs. Some (record { answers = xs ++ a ∷ []; world = u })) ea
    ] refl h

one_more : (es : List Event) (e : Event) → GoesOn es e
one_more [] e w al v a u h s =
    let r = same_Some _ _ h in
    let ea : [] ≡ al = ap (λ (x : Ran). x.answers) r in
    let ew : w ≡ v = ap (λ (x : Ran). x.world) r in
    ap (λ z. first_then z (λ y. Some (record { answers = []; world = y }))) (ap (λ y. step y e) ew ∙ s) ∙ ap (λ xs. Some (record { answers = xs ++ a ∷ []; world = u })) ea
one_more (d ∷ es) e w al v a u h s = first_more (step w d) es e (one_more es e) al v a u h s

pub ran_more : (w : World) (es : List Event) (i : ℕ) (e : Event) (al : List Answer) (v : World) (a : Answer) (u : World) → slice_get es i ≡ Some e → ran w (take i es) ≡ Some (record { answers = al; world = v }) → step v e ≡ Ok (record { answer = a; world = u }) → ran w (take (i + 1) es) ≡ Some (record { answers = al ++ a ∷ []; world = u })
ran_more w es i e al v a u ee h s = ap (ran w) (take_more es i e ee) ∙ one_more (take i es) e w al v a u h s

pub stopped_at : (w : World) (es : List Event) (i : ℕ) (e : Event) (al : List Answer) (v z : World) (fault : WorldFault) → slice_get es i ≡ Some e → ran w (take i es) ≡ Some (record { answers = al; world = v }) → SteppedBy e (step v e) (Err fault) v z → Stopped w es (record { step = i; fault = fault }) z
stopped_at w es i e al v z fault ee h s = record {
  answers = al;
  before = h ∙ ap (λ y. Some (record { answers = al; world = y })) (sym s.1);
  cause = inl (e, ee, subst (λ y. (step y e ≡ Err fault) ⊎ ((fault ≡ OutOfMemory) × (takes_memory e ≡ true) × IsAccepted (step y e))) (sym s.1) s.0);
}

pub read_at : {X : Type 0} (xs : List X) (i : ℕ) (x : X) → i < length xs → x ≡ get_or xs i x → slice_get xs i ≡ Some x
read_at [] i x lt e = absurd (omega (arith, lt))
read_at (y ∷ ys) zero x lt e = ap Some (sym e)
read_at (y ∷ ys) (suc i) x lt e = read_at ys i x (omega (arith, lt)) e

-- a run that is answered leaves the world after its events
pub ran_after : (w : World) (es : List Event) (r : Ran) → ran w es ≡ Some r → after w es ≡ r.world
ran_after w [] r h = ap (λ (x : Ran). x.world) (same_Some _ _ h)
ran_after w (e ∷ es) r h =
    elim (step w e) as (λ t. first_then t (λ v. ran v es) ≡ Some r → after (left_by w t) es ≡ r.world) [
      | Err f ↦ λ g. absurd (cc)
      | Ok o ↦ λ g. elim (ran o.world es) as (λ q. ran o.world es ≡ q → answered_first o.answer q ≡ Some r → after o.world es ≡ r.world) [
        | None ↦ λ a b. absurd (cc)
        | Some q ↦ λ a b. ran_after o.world es q a ∙ ap (λ (x : Ran). x.world) (same_Some _ _ b)
      ] refl g
    ] h
