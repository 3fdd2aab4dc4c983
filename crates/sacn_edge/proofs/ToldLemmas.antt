-- What a device tells over several calls.
use Rattle.std.proofs.Common.{◌≡◌, ◌≢◌, ℕ, ◌+◌, ◌≤◌, ◌==◌, false, List, [], ◌∷◌, ◌++◌, ◌∙◌, ap, append_assoc, take, drop, zero, suc, arith, zero-add, suc-add}
use Rattle.std.proofs.lemmas.List.{take-take}
use Rattle.std.proofs.lemmas.Bool.Decides.{nat_tests}
use Rattle.sacn_edge.specs.Additions.{Adds}

-- what two calls add, one after the other
pub Adds-append : {a b c : List ℕ → Type 0} (xs ys : List ℕ) → Adds a b xs → Adds b c ys → Adds a c (xs ++ ys)
Adds-append xs ys first second =
    λ zs told.
    let later = second zs told in
    let sooner = first later.0 later.1 in
    (sooner.0, sooner.1, later.2 ∙ ap (λ t. t ++ ys) sooner.2 ∙ append_assoc sooner.0 xs ys)

pub take-add : (n m : ℕ) (xs : List ℕ) → take (n + m) xs ≡ take n xs ++ take m (drop n xs)
take-add zero m xs = rw (zero-add m)
take-add (suc n) zero [] = rw (suc-add n zero)
take-add (suc n) (suc m) [] = rw (suc-add n (suc m))
take-add (suc n) m (x ∷ xs) = rw (suc-add n m) (ap (λ t. x ∷ t) (take-add n m xs))

-- the part of a text from i on that one more call takes
pub take-next : (i n k : ℕ) (xs : List ℕ) → n ≤ k → take (i + n) xs ≡ take i xs ++ take n (take k (drop i xs))
take-next i n k xs h = rw (take-take n k (drop i xs) h) (take-add i n xs)

pub not_zero : (n : ℕ) → n ≢ 0 → (n == 0) ≡ false
not_zero n h = grind (arith, nat_tests)
