-- A rule that is broken once more: one moment more of the list of its moments.
use Rattle.std.proofs.Common.{◌≡◌, ℕ, suc, ◌+◌, ◌-◌, ◌^◌, Bool, true, false, ◌==◌, cond, List, [], ◌∷◌, length, min, refl, arith}
use Rattle.std.proofs.lemmas.Bool.Decides.{nat_tests}
use Rattle.sacn_audit.specs.Breaches.{breach_by, last_of, noted, noted_if}

counted : (n : ℕ) → min (min (suc n) (2 ^ 64 - 1) + 1) (2 ^ 64 - 1) ≡ min (suc (suc n)) (2 ^ 64 - 1)
counted n = omega arith

begun : (n t first : ℕ) → cond (min (suc n) (2 ^ 64 - 1) == 0) t first ≡ first
begun n t first = grind (arith, nat_tests)

once_more : (t : ℕ) (ms : List ℕ) → noted t (breach_by ms) ≡ breach_by (t ∷ ms)
once_more t [] = refl
once_more t (m ∷ ms) =
    let times = counted (length ms) in
    let first = begun (length ms) t (last_of m ms) in
    λ i. record { times = times i; first = first i; latest = t }

pub noted_by : (is_broken : Bool) (t : ℕ) (ms : List ℕ) → noted_if is_broken t (breach_by ms) ≡ breach_by (cond is_broken (t ∷ ms) ms)
noted_by true t ms = once_more t ms
noted_by false t ms = refl
