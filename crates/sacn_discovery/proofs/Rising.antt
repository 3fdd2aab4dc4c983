-- Whether numbers rise, seen from pair to pair.
use Rattle.std.proofs.Common.{◌≡◌, ℕ, ◌+◌, ◌-◌, ◌<◌, ◌≤◌, ◌↔◌, ◌&&◌, Bool, true, ltb, List, length, get_or, ⊎_elim, arith}
use Rattle.std.specs.List.Sorted.{IsStrictlyIncreasing}
use Rattle.std.proofs.lemmas.Bool.{cases_lt, and_parts, and_from, ltb-true, lt-ltb}

-- the first i of them rise
abbrev pub RisesBelow : List ℕ → ℕ → Type 0
RisesBelow xs i = (k : ℕ) → k + 1 < i → k + 1 < length xs → get_or xs k 0 < get_or xs (k + 1) 0

next_rises : (xs : List ℕ) (i : ℕ) → 1 ≤ i → RisesBelow xs i → get_or xs (i - 1) 0 < get_or xs i 0 → RisesBelow xs (i + 1)
next_rises xs i le rises next k lt within = ⊎_elim
    (λ before. rises k before within)
    (λ after. let last : k ≡ i - 1 = omega arith in let here : i - 1 + 1 ≡ i = omega arith in rw last (rw here next))
    (cases_lt (k + 1) i)

last_rises : (xs : List ℕ) (i : ℕ) → 1 ≤ i → i < length xs → RisesBelow xs (i + 1) → get_or xs (i - 1) 0 < get_or xs i 0
last_rises xs i le lt rises =
    let next : get_or xs (i - 1) 0 < get_or xs (i - 1 + 1) 0 = rises (i - 1) (omega arith) (omega arith) in
    let here : i - 1 + 1 ≡ i = omega arith in
    rw here at next

pub one_more : (b : Bool) (xs : List ℕ) (i : ℕ) → 1 ≤ i → i < length xs → ((b ≡ true) ↔ RisesBelow xs i) → ((b && ltb (get_or xs (i - 1) 0) (get_or xs i 0)) ≡ true) ↔ RisesBelow xs (i + 1)
one_more b xs i le lt so_far =
    let here : Bool = ltb (get_or xs (i - 1) 0) (get_or xs i 0) in (
      (λ both. let parts = and_parts b here both in next_rises xs i le (so_far.0 parts.0) (ltb-true _ _ parts.1)),
      (λ rises. and_from b here (so_far.1 (λ k below within. rises k (omega arith) within)) (lt-ltb _ _ (last_rises xs i le lt rises))),
    )

pub all_rise : (b : Bool) (xs : List ℕ) (i : ℕ) → length xs ≤ i → ((b ≡ true) ↔ RisesBelow xs i) → (b ≡ true) ↔ IsStrictlyIncreasing xs
all_rise b xs i le so_far = ((λ is k within. so_far.0 is k (omega arith) within), (λ rises. so_far.1 (λ k below within. rises k within)))
