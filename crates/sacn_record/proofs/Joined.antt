-- What was put, one after the other.
use Rattle.std.proofs.Common.{◌≡◌, ℕ, ◌+◌, ◌<◌, suc, List, ◌∷◌, ◌++◌, length, drop, get_or, sym, ap, ◌∙◌, append_assoc, arith}
use Rattle.std.proofs.Math.Seq.{drop-cons}

pub joined : (old a b o1 o2 : List ℕ) → o1 ≡ old ++ a → o2 ≡ o1 ++ b → o2 ≡ old ++ (a ++ b)
joined old a b o1 o2 e1 e2 = e2 ∙ ap (λ xs. xs ++ b) e1 ∙ append_assoc old a b

-- one number more of those that f writes
pub put_one : (f : List ℕ → List ℕ) (one : ℕ → List ℕ) → ((n : ℕ) (ns : List ℕ) → f (n ∷ ns) ≡ one n ++ f ns) → (old out next : List ℕ) (numbers : List ℕ) (i : ℕ) → i < length numbers
    → out ++ f (drop i numbers) ≡ old → next ≡ out ++ one (get_or numbers i 0) → next ++ f (drop (i + 1) numbers) ≡ old
put_one f one step old out next numbers i within before e =
    let next_is : suc i ≡ i + 1 = omega arith in
    let parted = drop-cons numbers i 0 within ∙ ap (λ (k : ℕ). get_or numbers i 0 ∷ drop k numbers) next_is in
    let here = ap f parted ∙ step (get_or numbers i 0) (drop (i + 1) numbers) in
    ap (λ xs. xs ++ f (drop (i + 1) numbers)) e ∙ append_assoc out (one (get_or numbers i 0)) (f (drop (i + 1) numbers)) ∙ sym (ap (λ xs. out ++ xs) here) ∙ before
