-- Readings of octets that are known.
use Rattle.std.proofs.Common.{◌≡◌, ℕ, ◌+◌, ◌-◌, ◌^◌, Bool, true, List, [], ◌∷◌, ◌++◌, length, take, drop, Result, Ok, Err, ap, ◌∙◌, length-append, arith, eq-eqb}
use Rattle.std.specs.Prelude.{◌==◌, min, nat_le, if◌then◌else◌}
use Rattle.std.proofs.lemmas.List.{take_at, drop_at}
use Rattle.std.proofs.lemmas.Bool.{le-leb}
use Rattle.sacn_capture.specs.declared.faults.FaultKind.{FaultKind}
use Rattle.sacn_capture.specs.declared.faults.FaultKind.TheVariants.{CutShort, Length}
use Rattle.sacn_capture.specs.declared.octets.ByteOrder.TheVariants.{Little}
use Rattle.sacn_capture.specs.Check.{checked, ◌>>=◌}
use Rattle.sacn_capture.specs.Octets.{number32}
use Rattle.sacn_capture.specs.Files.{Place, Reading, octets, says, ◌▷◌}
use Rattle.sacn_capture.specs.Recordings.{closed, skipped}

abbrev pub place : ℕ → List ℕ → Place
place at left = record { at = at; left = left }

-- a place, so many octets further on
abbrev pub up : ℕ → ℕ → ℕ
up at n = min (at + n) (2 ^ 64 - 1)

pub octets_front : (n at : ℕ) (front rest : List ℕ) → length front ≡ n → octets n (place at (front ++ rest)) ≡ Ok (front, place (up at n) rest)
octets_front n at front rest len =
    let fits : nat_le n (length (front ++ rest)) ≡ true = le-leb n (length (front ++ rest)) (omega (arith, length-append front rest)) in
    let first = take_at front rest n len in
    let last = drop_at front rest n len in
    let read : (if nat_le n (length (front ++ rest)) then Ok (take n (front ++ rest), place (up at n) (drop n (front ++ rest))) else Err CutShort) ≡ Ok (front, place (up at n) rest) =
    λ i. if fits i then Ok (first i, place (up at n) (last i)) else Err CutShort in
    read

module _ {A B : Type 0} (first : Reading A) (next : A → Reading B) where
  pub behind : (p q : Place) (v : A) (r : Result (B × Place) FaultKind) → first p ≡ Ok (v, q) → next v q ≡ r → (first ▷ next) p ≡ r
  behind p q v r e f = ap (λ (z : Result (A × Place) FaultKind). z >>= (λ (x : A × Place). next x.0 x.1)) e ∙ f

module _ {A B : Type 0} (said : Result A FaultKind) (next : A → Reading B) where
  pub behind_said : (p : Place) (v : A) (r : Result (B × Place) FaultKind) → said ≡ Ok v → next v p ≡ r → (says said ▷ next) p ≡ r
  behind_said p v r e f = ap (λ (w : Result A FaultKind). says w p >>= (λ (x : A × Place). next x.0 x.1)) e ∙ f

pub closed_read : (s at : ℕ) (tail rest : List ℕ) → length tail ≡ 4 → number32 Little tail 0 ≡ s → closed Little s (place at (tail ++ rest)) ≡ Ok (s, place (up at 4) rest)
closed_read s at tail rest len e =
    let same : (number32 Little tail 0 == s) ≡ true = eq-eqb (number32 Little tail 0) s e in
    behind (octets 4) (λ again. says (checked ((number32 Little again 0 == s, Length) ∷ []) s)) (place at (tail ++ rest)) (place (up at 4) rest) tail (Ok (s, place (up at 4) rest)) (octets_front 4 at tail rest len)
    (ap (λ (b : Bool). says (checked ((b, Length) ∷ []) s) (place (up at 4) rest)) same)

pub skipped_read : (n s at : ℕ) (front tail rest : List ℕ) → length front ≡ n → length tail ≡ 4 → number32 Little tail 0 ≡ s
    → skipped n Little s (place at (front ++ (tail ++ rest))) ≡ Ok (s, place (up (up at n) 4) rest)
skipped_read n s at front tail rest lf lt e =
    behind (octets n) (λ (x : List ℕ). closed Little s) (place at (front ++ (tail ++ rest))) (place (up at n) (tail ++ rest)) front (Ok (s, place (up (up at n) 4) rest)) (octets_front n at front (tail ++ rest) lf)
    (closed_read s (up at n) tail rest lt e)
