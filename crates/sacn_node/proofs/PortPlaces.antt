-- Of ports whose numbers rise, the one at a place is found by its number.
use Rattle.std.proofs.Common.{◌≡◌, ℕ, zero, suc, ◌+◌, ◌<◌, cond, List, [], ◌∷◌, length, slice_index, get_or, Some, refl, ap, subst, ◌∙◌, arith}
use Rattle.std.specs.List.Sorted.{IsStrictlyIncreasing}
use Rattle.std.proofs.lemmas.Bool.{ne_eqb, eq-eqb}
use Rattle.sacn_node.specs.Setup.{Port, port_numbers}
use Rattle.sacn_node.specs.Ports.{port_of}

tail_rises : (p : ℕ) (ps : List ℕ) → IsStrictlyIncreasing (p ∷ ps) → IsStrictlyIncreasing ps
tail_rises p ps rise k lt =
    let next : suc k + 1 ≡ suc (k + 1) = omega arith in
    subst (λ (j : ℕ). slice_index (p ∷ ps) (suc k) < slice_index (p ∷ ps) j) next (rise (suc k) (omega arith))

-- the first number is below that of each port behind it
first_below : (p : ℕ) (ps : List Port) (i : ℕ) (d : Port) → IsStrictlyIncreasing (p ∷ port_numbers ps) → i < length ps → p < (get_or ps i d).number
first_below p [] i d rise lt = absurd (omega arith)
first_below p (q ∷ qs) zero d rise lt = rise 0 (omega arith)
first_below p (q ∷ qs) (suc i) d rise lt =
    let first : p < q.number = rise 0 (omega arith) in
    let rest = first_below q.number qs i d (tail_rises p (q.number ∷ port_numbers qs) rise) (omega arith) in
    omega (arith, first, rest)

pub found_at : (ps : List Port) (i : ℕ) (d : Port) → IsStrictlyIncreasing (port_numbers ps) → i < length ps → port_of (get_or ps i d).number ps ≡ Some (get_or ps i d)
found_at [] i d rise lt = absurd (omega arith)
found_at (p ∷ ps) zero d rise lt = ap (λ b. cond b (Some p) (port_of p.number ps)) (eq-eqb p.number p.number refl)
found_at (p ∷ ps) (suc i) d rise lt =
    let q = get_or ps i d in
    let below = first_below p.number ps i d rise (omega arith) in
    ap (λ b. cond b (Some p) (port_of q.number ps)) (ne_eqb p.number q.number (λ same. omega (arith, below, same)))
    ∙ found_at ps i d (tail_rises p.number (port_numbers ps) rise) (omega arith)
