-- Universe numbers and their octets.
use Rattle.std.proofs.Common.{◌≡◌, ℕ, zero, suc, ◌+◌, ◌*◌, ◌/◌, ◌%◌, ◌^◌, ◌<◌, List, [], ◌∷◌, ◌++◌, length, get_or, refl, sym, ap, ◌∙◌, arith}
use Rattle.std.specs.List.{AllByRecursion}
use Rattle.std.specs.Int.{w16, to_be_bytes}
use Rattle.sacn_packets.specs.Octets.{number16_at}
use Rattle.sacn_packets.proofs.Pieces.{IsBytes, number16_octets, number16_back}
use Rattle.sacn_packets.specs.Page.{numbers_of}
use Rattle.sacn_packets.specs.PageText.{numbers_text}

pub length_numbers : (octets : List ℕ) → length (numbers_of octets) ≡ length octets / 2
length_numbers [] = refl
length_numbers (high ∷ []) = refl
length_numbers (high ∷ low ∷ octets) = omega (arith, length_numbers octets)

pub number_at : (octets : List ℕ) (i : ℕ) → i < length octets / 2 → get_or (numbers_of octets) i 0 ≡ number16_at octets (2 * i)
number_at [] i lt = absurd (omega arith)
number_at (high ∷ []) i lt = absurd (omega arith)
number_at (high ∷ low ∷ octets) zero lt = refl
number_at (high ∷ low ∷ octets) (suc i) lt =
    let first : 2 * suc i ≡ suc (suc (2 * i)) = omega arith in
    let second : suc (suc (2 * i)) + 1 ≡ suc (suc (2 * i + 1)) = omega arith in
    number_at octets i (omega arith) ∙ sym (rw (first, second) refl)

pub numbers_back : (numbers : List ℕ) → AllByRecursion (λ n. n < 2 ^ 16) numbers → numbers_of (numbers_text numbers) ≡ numbers
numbers_back [] fits = refl
numbers_back (n ∷ numbers) fits = rw (number16_back n fits.0, numbers_back numbers fits.1) refl

pub numbers_fit : (octets : List ℕ) → IsBytes octets → AllByRecursion (λ n. n < 2 ^ 16) (numbers_of octets)
numbers_fit [] fits = tt
numbers_fit (high ∷ []) fits = tt
numbers_fit (high ∷ low ∷ octets) fits = (omega (arith, fits 0, fits 1), numbers_fit octets (λ i. fits (suc (suc i))))

pub text_back : (octets : List ℕ) → IsBytes octets → length octets % 2 ≡ 0 → numbers_text (numbers_of octets) ≡ octets
text_back [] fits even = refl
text_back (high ∷ []) fits even = absurd (omega arith)
text_back (high ∷ low ∷ octets) fits even =
    let front : to_be_bytes w16 (2 ^ 8 * high + low) ≡ high ∷ low ∷ [] = number16_octets high low (fits 0) (fits 1) in
    ap (λ (xs : List ℕ). xs ++ numbers_text (numbers_of octets)) front ∙ ap (λ (xs : List ℕ). high ∷ low ∷ xs) (text_back octets (λ i. fits (suc (suc i))) (omega arith))

pub length_text : (numbers : List ℕ) → length (numbers_text numbers) ≡ 2 * length numbers
length_text [] = refl
length_text (n ∷ numbers) = omega (arith, length_text numbers)
