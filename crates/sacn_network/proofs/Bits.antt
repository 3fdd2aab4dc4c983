-- The bits of a set of universes.
use Rattle.std.proofs.Common.{◌≡◌, ◌≢◌, ◌<◌, ◌+◌, ◌/◌, ◌%◌, ◌^◌, ◌⊎◌, inl, inr, ℕ, zero, suc, Bool, true, false, not, cond, ◌==◌, List, length, get_or, replicate, bit_xor, refl, sym, ap, ◌∙◌, arith, eq-eqb, ne_eqb}
use Rattle.std.specs.Int.{bit_at}
use Rattle.std.proofs.lemmas.Bool.{cases_eq}
use Rattle.std.proofs.lemmas.List.{get_or-set_same, get_or-set_other, length-set, length-replicate}
use Rattle.std.proofs.lemmas.Nat.Bits.{bit_at-zero, bit_at_xor, bit_at-pow_same, bit_at-pow_other, bit_at-lt}
use Rattle.sacn_network.specs.declared.universe_set.TheConstants.{WORDS}
use Rattle.sacn_network.specs.Sets.{HasNone, MarksOneUniverse, has_bit, is_otherwise, marked, no_universes, turned}

zeros_at : (n i : ℕ) → ◌≡◌ {A = ℕ} (get_or (replicate n 0) i 0) 0
zeros_at zero i = refl
zeros_at (suc n) zero = refl
zeros_at (suc n) (suc i) = zeros_at n i

pub has_none : HasNone
unfolding no_universes
has_none universe = ap (λ (word : ℕ). bit_at word (universe % 64) == 1) (zeros_at WORDS (universe / 64)) ∙ ap (λ (bit : ℕ). bit == 1) (bit_at-zero (universe % 64))

-- ---- one bit is turned

turned_bit : (bit : ℕ) → bit < 2 → ((bit + 1) % 2 == 1) ≡ not (bit == 1)
turned_bit zero low = refl
turned_bit (suc zero) low = refl
turned_bit (suc (suc n)) low = absurd (omega (arith, low))

kept_bit : (bit : ℕ) → bit < 2 → ((bit + 0) % 2 == 1) ≡ (bit == 1)
kept_bit zero low = refl
kept_bit (suc zero) low = refl
kept_bit (suc (suc n)) low = absurd (omega (arith, low))

module _ (words : List ℕ) (universe : ℕ) where
  abbrev word : ℕ
  word = get_or words (universe / 64) 0

  same_word : (i : ℕ) → universe / 64 < length words → i ≡ universe / 64 → get_or (turned universe words) i 0 ≡ bit_xor word (2 ^ (universe % 64))
  same_word i within is = ap (λ (k : ℕ). get_or (turned universe words) k 0) is ∙ get_or-set_same words (universe / 64) (bit_xor word (2 ^ (universe % 64))) 0 within

  at_itself : universe / 64 < length words → has_bit (turned universe words) universe ≡ not (has_bit words universe)
  at_itself within =
      ap (λ (w : ℕ). bit_at w (universe % 64) == 1) (same_word (universe / 64) within refl)
      ∙ ap (λ (bit : ℕ). bit == 1) (bit_at_xor word (2 ^ (universe % 64)) (universe % 64) ∙ ap (λ (bit : ℕ). (bit_at word (universe % 64) + bit) % 2) (bit_at-pow_same (universe % 64)))
      ∙ turned_bit (bit_at word (universe % 64)) (bit_at-lt word (universe % 64))

  in_one_word : (other : ℕ) → universe / 64 < length words → other / 64 ≡ universe / 64 → other % 64 ≢ universe % 64 → has_bit (turned universe words) other ≡ has_bit words other
  in_one_word other within same apart =
      ap (λ (w : ℕ). bit_at w (other % 64) == 1) (same_word (other / 64) within same)
      ∙ ap (λ (bit : ℕ). bit == 1) (bit_at_xor word (2 ^ (universe % 64)) (other % 64) ∙ ap (λ (bit : ℕ). (bit_at word (other % 64) + bit) % 2) (bit_at-pow_other (universe % 64) (other % 64) apart))
      ∙ kept_bit (bit_at word (other % 64)) (bit_at-lt word (other % 64))
      ∙ ap (λ (i : ℕ). bit_at (get_or words i 0) (other % 64) == 1) (sym same)

  in_another : (other : ℕ) → other / 64 ≢ universe / 64 → has_bit (turned universe words) other ≡ has_bit words other
  in_another other apart = ap (λ (w : ℕ). bit_at w (other % 64) == 1) (get_or-set_other words (universe / 64) (other / 64) (bit_xor word (2 ^ (universe % 64))) 0 apart)

  at_another : (other : ℕ) → other / 64 < length words → other ≢ universe → has_bit (turned universe words) other ≡ has_bit words other
  at_another other within apart =
      elim (cases_eq (other / 64) (universe / 64)) [
        | inl same ↦ in_one_word other (omega (arith, same, within)) same (λ low. apart (omega (arith, same, low)))
        | inr word_apart ↦ in_another other word_apart
      ]

otherwise_not : (is_in before : Bool) → is_otherwise is_in before ≡ true → not before ≡ is_in
otherwise_not true true is = absurd cc
otherwise_not true false is = refl
otherwise_not false true is = refl
otherwise_not false false is = absurd cc

pub as_before : (is_in before : Bool) → is_otherwise is_in before ≡ false → before ≡ is_in
as_before true true is = refl
as_before true false is = absurd cc
as_before false true is = absurd cc
as_before false false is = refl

module _ (words : List ℕ) (universe : ℕ) (is_in : Bool) where
  marked_by : (b : Bool) → is_otherwise is_in (has_bit words universe) ≡ b → (other : ℕ) → other / 64 < length words → (other ≡ universe) ⊎ (other ≢ universe)
      → has_bit (cond b (turned universe words) words) other ≡ cond (other == universe) is_in (has_bit words other)
  marked_by true is other within (inl same) =
      ap (has_bit (turned universe words)) same ∙ at_itself words universe (omega (arith, same, within)) ∙ otherwise_not is_in (has_bit words universe) is
      ∙ sym (ap (λ (b : Bool). cond b is_in (has_bit words other)) (eq-eqb other universe same))
  marked_by true is other within (inr apart) = at_another words universe other within apart ∙ sym (ap (λ (b : Bool). cond b is_in (has_bit words other)) (ne_eqb other universe apart))
  marked_by false is other within (inl same) =
      ap (has_bit words) same ∙ as_before is_in (has_bit words universe) is ∙ sym (ap (λ (b : Bool). cond b is_in (has_bit words other)) (eq-eqb other universe same))
  marked_by false is other within (inr apart) = sym (ap (λ (b : Bool). cond b is_in (has_bit words other)) (ne_eqb other universe apart))

pub marks_one : MarksOneUniverse
unfolding marked
marks_one words universe is_in other long low =
    marked_by words universe is_in (is_otherwise is_in (has_bit words universe)) refl other (omega (arith, long, low)) (cases_eq other universe)

marked_length_by : (b : Bool) (words : List ℕ) (universe : ℕ) → length (cond b (turned universe words) words) ≡ length words
marked_length_by true words universe = length-set words (universe / 64) (bit_xor (get_or words (universe / 64) 0) (2 ^ (universe % 64)))
marked_length_by false words universe = refl

pub marked_length : (words : List ℕ) (universe : ℕ) (is_in : Bool) → length (marked universe is_in words) ≡ length words
unfolding marked
marked_length words universe is_in = marked_length_by (is_otherwise is_in (has_bit words universe)) words universe

pub none_length : length no_universes ≡ WORDS
unfolding no_universes
none_length = length-replicate {A = ℕ} WORDS 0
