-- The step of the rule is the only number of its range that is congruent to the difference.
use Rattle.std.proofs.Common.{◌≡◌, ℕ, ◌+◌, ◌-◌, ◌%◌, ◌<◌, ℤ, pos, negsuc, ◌-ℤ◌, ◌+ℤ◌, ◌*ℤ◌, ◌≤ℤ◌, inl, inr, arith}
use Rattle.std.proofs.lemmas.Bool.{cases_lt}
use Rattle.std.proofs.lemmas.Bool.Decides.{nat_tests}
use Rattle.std.proofs.lemmas.Int.{ints}
use Rattle.sacn_sources.specs.Sequence.{step, IsStep}

same_step : (a b : ℕ) (k : ℤ) → a < 256 → b < 256 → negsuc 127 ≤ℤ step a b → step a b ≤ℤ pos 127 → pos b -ℤ pos a ≡ step a b +ℤ (k *ℤ pos 256) → IsStep a b (step a b)
same_step a b k fa fb low high e = record { at_least = low; at_most = high; congruent = (k, e) }

pub step_is : (a b : ℕ) → a < 256 → b < 256 → IsStep a b (step a b)
step_is a b fa fb = elim (cases_lt b a) [
  | inl before ↦ elim (cases_lt ((b + 256 - a) % 256) 128) [
    | inl near ↦ same_step a b (negsuc 0) fa fb (grind (arith, ints, nat_tests)) (grind (arith, ints, nat_tests)) (grind (arith, ints, nat_tests))
    | inr far ↦ same_step a b (pos 0) fa fb (grind (arith, ints, nat_tests)) (grind (arith, ints, nat_tests)) (grind (arith, ints, nat_tests))
  ]
  | inr after ↦ elim (cases_lt ((b + 256 - a) % 256) 128) [
    | inl near ↦ same_step a b (pos 0) fa fb (grind (arith, ints, nat_tests)) (grind (arith, ints, nat_tests)) (grind (arith, ints, nat_tests))
    | inr far ↦ same_step a b (pos 1) fa fb (grind (arith, ints, nat_tests)) (grind (arith, ints, nat_tests)) (grind (arith, ints, nat_tests))
  ]
]

-- two numbers of the range that are congruent are one
congruent_is_same : (d s t k l : ℤ) → negsuc 127 ≤ℤ s → s ≤ℤ pos 127 → negsuc 127 ≤ℤ t → t ≤ℤ pos 127 → d ≡ s +ℤ (k *ℤ pos 256) → d ≡ t +ℤ (l *ℤ pos 256) → s ≡ t
congruent_is_same d s t k l low_s high_s low_t high_t is_s is_t = omega (arith, ints)

pub one_step : (a b : ℕ) (s : ℤ) → a < 256 → b < 256 → IsStep a b s → s ≡ step a b
one_step a b s fa fb is =
    let other : IsStep a b (step a b) = step_is a b fa fb in
    congruent_is_same (pos b -ℤ pos a) s (step a b) is.congruent.0 other.congruent.0 is.at_least is.at_most other.at_least other.at_most is.congruent.1 other.congruent.1
