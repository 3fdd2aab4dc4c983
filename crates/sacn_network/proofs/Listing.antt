-- The universes of a set, number by number.
use Rattle.std.proofs.Common.{◌≡◌, ◌<◌, ◌≤◌, ◌+◌, ◌*◌, ◌/◌, ◌%◌, ℕ, zero, suc, Bool, true, false, cond, ◌==◌, List, [], ◌∷◌, ◌++◌, get_or, sym, ap, ◌∙◌, arith}
use Rattle.std.specs.Int.{bit_at}
use Rattle.std.proofs.lemmas.Nat.Bits.{bit_at-zero}
use Rattle.sacn_network.specs.Sets.{has_bit, universes_below}

module _ (words : List ℕ) where
  -- one more number
  one_number : (number : ℕ) (b : Bool) → has_bit words number ≡ b → universes_below (suc number) words ≡ cond b (universes_below number words ++ (number ∷ [])) (universes_below number words)
  unfolding universes_below
  one_number number b is = ap (λ (x : Bool). cond x (universes_below number words ++ (number ∷ [])) (universes_below number words)) is

  next_number : (number next : ℕ) → next ≡ number + 1 → universes_below next words ≡ universes_below (suc number) words
  next_number number next is = let e : next ≡ suc number = omega (arith, is) in ap (λ (n : ℕ). universes_below n words) e

  pub one_in : (number next : ℕ) (found : List ℕ) → next ≡ number + 1 → has_bit words number ≡ true → found ≡ universes_below number words → found ++ (number ∷ []) ≡ universes_below next words
  one_in number next found is has so_far = ap (λ (ns : List ℕ). ns ++ (number ∷ [])) so_far ∙ sym (next_number number next is ∙ one_number number true has)

  pub one_out : (number next : ℕ) (found : List ℕ) → next ≡ number + 1 → has_bit words number ≡ false → found ≡ universes_below number words → found ≡ universes_below next words
  one_out number next found is has so_far = so_far ∙ sym (next_number number next is ∙ one_number number false has)

  -- a word of none
  no_bit : (place k : ℕ) → get_or words place 0 ≡ 0 → k < 64 → has_bit words (place * 64 + k) ≡ false
  no_bit place k none low =
      let at : (place * 64 + k) / 64 ≡ place = omega (arith, low) in
      ap (λ (i : ℕ). bit_at (get_or words i 0) ((place * 64 + k) % 64) == 1) at
      ∙ ap (λ (word : ℕ). bit_at word ((place * 64 + k) % 64) == 1) none
      ∙ ap (λ (bit : ℕ). bit == 1) (bit_at-zero ((place * 64 + k) % 64))

  none_up_to : (place k : ℕ) (found : List ℕ) → get_or words place 0 ≡ 0 → k ≤ 64 → found ≡ universes_below (place * 64) words → found ≡ universes_below (place * 64 + k) words
  none_up_to place zero found none low so_far = let e : place * 64 ≡ place * 64 + 0 = omega arith in so_far ∙ ap (λ (n : ℕ). universes_below n words) e
  none_up_to place (suc k) found none low so_far =
      one_out (place * 64 + k) (place * 64 + suc k) found (omega arith) (no_bit place k none (omega (arith, low))) (none_up_to place k found none (omega (arith, low)) so_far)

  pub no_word : (place next : ℕ) (found : List ℕ) → next ≡ place + 1 → get_or words place 0 ≡ 0 → found ≡ universes_below (place * 64) words → found ≡ universes_below (next * 64) words
  no_word place next found is none so_far =
      let e : place * 64 + 64 ≡ next * 64 = omega (arith, is) in
      none_up_to place 64 found none (omega arith) so_far ∙ ap (λ (n : ℕ). universes_below n words) e
