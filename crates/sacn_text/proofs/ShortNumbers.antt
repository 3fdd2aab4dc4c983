-- Numbers of one to three decimal digits.
use Rattle.std.proofs.Common.{◌≡◌, ℕ, ◌+◌, ◌/◌, ◌%◌, ◌<◌, ◌≤◌, List, [], ◌∷◌, ◌++◌, refl, arith, append_assoc}
use Rattle.std.proofs.lemmas.Fmt.{decimal_digit, decimal_step}
use Rattle.std.specs.Fmt.{decimal}

pub of_one : (n : ℕ) → n < 10 → decimal n ≡ (48 + n) ∷ []
of_one n small = decimal_digit n small

pub of_two : (n : ℕ) → 10 ≤ n → n < 100 → decimal n ≡ (48 + n / 10) ∷ (48 + n % 10) ∷ []
of_two n least most = rw (decimal_step n least (omega arith), decimal_digit (n / 10) (omega arith)) refl

pub of_more : (n : ℕ) → 10 ≤ n → n < 1000 → decimal n ≡ decimal (n / 10) ++ ((48 + n % 10) ∷ [])
of_more n least most = decimal_step n least (omega arith)

-- a digit pushed behind another, or behind the digits before it
pub two_pushed : (n tens ones : ℕ) (old mid new : List ℕ) → tens ≡ 48 + n / 10 → ones ≡ 48 + n % 10 → 10 ≤ n → n < 100
    → mid ≡ old ++ tens ∷ [] → new ≡ mid ++ ones ∷ [] → new ≡ old ++ decimal n
two_pushed n tens ones old mid new is_tens is_ones least most first then =
    rw (then, first, is_tens, is_ones, of_two n least most, append_assoc old ((48 + n / 10) ∷ []) ((48 + n % 10) ∷ [])) refl

pub last_pushed : (n ones : ℕ) (old mid new : List ℕ) → ones ≡ 48 + n % 10 → 10 ≤ n → n < 1000
    → mid ≡ old ++ decimal (n / 10) → new ≡ mid ++ ones ∷ [] → new ≡ old ++ decimal n
last_pushed n ones old mid new is_ones least most first then =
    rw (then, first, is_ones, of_more n least most, append_assoc old (decimal (n / 10)) ((48 + n % 10) ∷ [])) refl
