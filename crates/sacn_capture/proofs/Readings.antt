-- Calls that read one after another, as one reading.
use Rattle.std.proofs.Common.{◌≡◌, Option, None, Some, Result, Ok, Err, inl, inr, refl, subst, ap, ◌∙◌}
use Rattle.std.specs.Prelude.{◌⊎◌}
use Rattle.sacn_capture.specs.declared.faults.FaultKind.{FaultKind}
use Rattle.sacn_capture.specs.Check.{◌>>=◌}
use Rattle.sacn_capture.specs.Files.{Place, Reading, Does, IsOutside, says, gives, ◌▷◌}

module _ {A B : Type 0} (p : Reading A) (q : A → Reading B) where
  still_fails : (place : Place) (kind : FaultKind) → IsOutside kind ⊎ (p place ≡ Err kind) → IsOutside kind ⊎ ((p ▷ q) place ≡ Err kind)
  still_fails place kind (inl out) = inl out
  still_fails place kind (inr e) = inr (ap (λ (z : Result (A × Place) FaultKind). z >>= (λ (r : A × Place). q r.0 r.1)) e)

  then_fails : (place after : Place) (x : A) (kind : FaultKind) → p place ≡ Ok (x, after) → IsOutside kind ⊎ (q x after ≡ Err kind) → IsOutside kind ⊎ ((p ▷ q) place ≡ Err kind)
  then_fails place after x kind e (inl out) = inl out
  then_fails place after x kind e (inr f) = inr (ap (λ (z : Result (A × Place) FaultKind). z >>= (λ (r : A × Place). q r.0 r.1)) e ∙ f)

  pub then_did : (a b c : Option Place) (x : A) (r : Result B FaultKind) → Does p a b (Ok x) → Does (q x) b c r → Does (p ▷ q) a c r
  then_did None b c x r h g = tt
  then_did (Some place) b c x (Ok y) h g =
      let g2 : Does (q x) (Some h.0) c (Ok y) = subst (λ (o : Option Place). Does (q x) o c (Ok y)) h.1 g in
      (g2.0, g2.1, ap (λ (z : Result (A × Place) FaultKind). z >>= (λ (r : A × Place). q r.0 r.1)) h.2 ∙ g2.2)
  then_did (Some place) b c x (Err kind) h g = then_fails place h.0 x kind h.2 (subst (λ (o : Option Place). Does (q x) o c (Err kind)) h.1 g)

  pub failed : (a b c : Option Place) (kind : FaultKind) → Does p a b (Err kind) → Does (p ▷ q) a c (Err kind)
  failed None b c kind h = tt
  failed (Some place) b c kind h = still_fails place kind h

module _ {A B : Type 0} (v : Result A FaultKind) (q : A → Reading B) where
  says_fails : (place : Place) (x : A) (kind : FaultKind) → v ≡ Ok x → IsOutside kind ⊎ (q x place ≡ Err kind) → IsOutside kind ⊎ ((says v ▷ q) place ≡ Err kind)
  says_fails place x kind e (inl out) = inl out
  says_fails place x kind e (inr f) = inr (ap (λ (w : Result A FaultKind). says w place >>= (λ (r : A × Place). q r.0 r.1)) e ∙ f)

  pub said : (a c : Option Place) (x : A) (r : Result B FaultKind) → v ≡ Ok x → Does (q x) a c r → Does (says v ▷ q) a c r
  said None c x r e g = tt
  said (Some place) c x (Ok y) e g = (g.0, g.1, ap (λ (w : Result A FaultKind). says w place >>= (λ (r : A × Place). q r.0 r.1)) e ∙ g.2)
  said (Some place) c x (Err kind) e g = says_fails place x kind e g

  pub refused : (a c : Option Place) (kind : FaultKind) → v ≡ Err kind → Does (says v ▷ q) a c (Err kind)
  refused None c kind e = tt
  refused (Some place) c kind e = inr (ap (λ (w : Result A FaultKind). says w place >>= (λ (r : A × Place). q r.0 r.1)) e)

-- want of memory comes from outside
pub outside : {A : Type 0} (p : Reading A) (a c : Option Place) (kind : FaultKind) → IsOutside kind → Does p a c (Err kind)
outside p None c kind out = tt
outside p (Some place) c kind out = inl out

pub gave : {A : Type 0} (v w : A) (a : Option Place) → v ≡ w → Does (gives v) a a (Ok w)
gave v w None e = tt
gave v w (Some place) e = (place, refl, ap (λ z. Ok (z, place)) e)
