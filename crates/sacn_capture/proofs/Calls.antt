-- What any number of calls give, from what each gives.
use Rattle.std.proofs.Common.{◌≡◌, List, [], ◌∷◌, ◌++◌, Option, None, Some, Result, Ok, Err, inl, inr, refl, sym, ap, subst, ◌∙◌}
use Rattle.std.specs.Prelude.{◌⊎◌, ⊤, IfSome}
use Rattle.sacn_capture.specs.declared.faults.CaptureFault.{CaptureFault}
use Rattle.sacn_capture.specs.Files.{IsOutside}
use Rattle.sacn_capture.specs.Recordings.{Shown, Told, ends, faulted}
use Rattle.sacn_capture.specs.Calls.{Calls, AreOf, frames_given, fault_given}

abbrev IsFound : Option CaptureFault → Type 0
IsFound None = ⊥
IsFound (Some fault) = ⊤

abbrev IsEmpty : {X : Type 0} → List X → Type 0
IsEmpty [] = ⊤
IsEmpty (x ∷ xs) = ⊥

no_front : {X : Type 0} (xs ys : List X) → [] ≡ xs ++ ys → xs ≡ []
no_front [] ys e = refl
no_front (x ∷ xs) ys e = absurd (subst IsEmpty e tt)

more_failed : (frame : Shown) (all rest : Told) (given : List Shown) (found : Option CaptureFault) → all ≡ record { frames = frame ∷ rest.frames; fault = rest.fault }
    → IfSome found (λ fault. IsOutside fault.kind ⊎ ((rest.frames ≡ given) × (rest.fault ≡ Some fault)))
    → IfSome found (λ fault. IsOutside fault.kind ⊎ ((all.frames ≡ frame ∷ given) × (all.fault ≡ Some fault)))
more_failed frame all rest given None e h = tt
more_failed frame all rest given (Some fault) e (inl out) = inl out
more_failed frame all rest given (Some fault) e (inr h) = inr (ap (λ (t : Told). t.frames) e ∙ ap (λ (xs : List Shown). frame ∷ xs) h.0, ap (λ (t : Told). t.fault) e ∙ h.1)

own_fault : (all : Told) (given : List Shown) (fault : CaptureFault) → given ≡ [] → IsOutside fault.kind ⊎ (all ≡ faulted fault) → IsOutside fault.kind ⊎ ((all.frames ≡ given) × (all.fault ≡ Some fault))
own_fault all given fault none (inl out) = inl out
own_fault all given fault none (inr e) = inr (ap (λ (t : Told). t.frames) e ∙ sym none, ap (λ (t : Told). t.fault) e)

pub of_calls : (results : List (Result (Option Shown) CaptureFault)) (all : Told) (after : Option Told) → Calls results (Some all) after → AreOf results all
of_calls [] all after h = record { front = (all.frames, refl); ended = λ e. absurd e; failed = tt }
of_calls (Ok None ∷ results) all after h =
    let rest : AreOf results ends = of_calls results ends after (subst (λ (m : Option Told). Calls results m after) h.1.1 h.2) in
    let same : AreOf results all = subst (λ (t : Told). AreOf results t) (sym h.1.0) rest in
    record { front = same.front; ended = λ e. (ap (λ (t : Told). t.frames) h.1.0 ∙ sym (no_front (frames_given results) rest.front.0 rest.front.1), ap (λ (t : Told). t.fault) h.1.0); failed = same.failed }
of_calls (Ok (Some frame) ∷ results) all after h =
    let rest : AreOf results h.1.0 = of_calls results h.1.0 after (subst (λ (m : Option Told). Calls results m after) h.1.1 h.2) in
    let put : List Shown → List Shown = λ (xs : List Shown). frame ∷ xs in
    record {
      front = (rest.front.0, ap (λ (t : Told). t.frames) h.1.2 ∙ ap put rest.front.1);
      ended = λ e. (ap (λ (t : Told). t.frames) h.1.2 ∙ ap put (rest.ended e).0, ap (λ (t : Told). t.fault) h.1.2 ∙ (rest.ended e).1);
      failed = more_failed frame all h.1.0 (frames_given results) (fault_given results) h.1.2 rest.failed;
    }
of_calls (Err fault ∷ results) all after h =
    let rest : AreOf results (faulted fault) = of_calls results (faulted fault) after (subst (λ (m : Option Told). Calls results m after) h.1.0 h.2) in
    let none = no_front (frames_given results) rest.front.0 rest.front.1 in
    record {
      front = (all.frames, ap (λ (xs : List Shown). xs ++ all.frames) (sym none));
      ended = λ e. absurd (subst IsFound (rest.ended e).1 tt);
      failed = own_fault all (frames_given results) fault none h.1.1;
    }
