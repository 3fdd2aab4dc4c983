-- Two lists of as many, of which the first pairs are done.
use Rattle.std.proofs.Common.{◌≡◌, ℕ, zero, suc, ◌<◌, List, [], ◌∷◌, length, get_or, set, refl, subst, arith}
use Rattle.std.specs.Prelude.{⊤}
use Rattle.sacn_gateway.specs.Interfaces.{Pairwise}

abbrev pub DoneTo : {X : Type 0} → (X → X → Type 0) → ℕ → List X → List X → Type 0
DoneTo R n [] [] = ⊤
DoneTo R n [] (y ∷ ys) = ⊥
DoneTo R n (x ∷ xs) [] = ⊥
DoneTo R zero (x ∷ xs) (y ∷ ys) = (y ≡ x) × DoneTo R zero xs ys
DoneTo R (suc n) (x ∷ xs) (y ∷ ys) = R x y × DoneTo R n xs ys

pub none_done : {X : Type 0} (R : X → X → Type 0) (xs : List X) → DoneTo R 0 xs xs
none_done R [] = tt
none_done R (x ∷ xs) = (refl, none_done R xs)

nothing_left : {X : Type 0} (R : X → X → Type 0) (n : ℕ) (x : X) (xs : List X) → DoneTo R n (x ∷ xs) [] → ⊥
nothing_left R zero x xs done = done
nothing_left R (suc n) x xs done = done

pub all_done : {X : Type 0} (R : X → X → Type 0) (n : ℕ) (xs ys : List X) → n ≡ length xs → DoneTo R n xs ys → Pairwise R xs ys
all_done R n [] [] long done = tt
all_done R n [] (y ∷ ys) long done = absurd done
all_done R n (x ∷ xs) [] long done = absurd (nothing_left R n x xs done)
all_done R zero (x ∷ xs) (y ∷ ys) long done = absurd (omega (arith, long))
all_done R (suc n) (x ∷ xs) (y ∷ ys) long done = (done.0, all_done R n xs ys (omega (arith, long)) done.1)

pub more_done : {X : Type 0} (R : X → X → Type 0) (n : ℕ) (xs ys : List X) (d new : X) → DoneTo R n xs ys → n < length xs → R (get_or ys n d) new → DoneTo R (suc n) xs (set ys n new)
more_done R n [] ys d new done within is = absurd (omega (arith, within))
more_done R n (x ∷ xs) [] d new done within is = absurd (nothing_left R n x xs done)
more_done R zero (x ∷ xs) (y ∷ ys) d new done within is = (subst (λ v. R v new) done.0 is, done.1)
more_done R (suc n) (x ∷ xs) (y ∷ ys) d new done within is = (done.0, more_done R n xs ys d new done.1 (omega (arith, within)) is)
