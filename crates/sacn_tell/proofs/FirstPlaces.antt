-- The first place in a list that passes a test.
use Rattle.std.proofs.Common.{◌≡◌, ◌≢◌, ◌==◌, ◌+◌, ◌<◌, ◌≤◌, ◌++◌, ◌||◌, ℕ, zero, suc, Bool, true, false, cond, not, List, [], ◌∷◌, length, Option, None, Some, slice_get, slice_set, nat_lt, refl, sym, ap, ◌∙◌, arith}
use Rattle.std.specs.List.{list_any, position, position_or_len}
use Rattle.std.specs.Option.{is_some}
use Rattle.std.proofs.lemmas.Bool.{ltb-true, ltb-false}
use Rattle.std.proofs.lemmas.Bool.Decides.{nat_tests}
use Rattle.std.proofs.lemmas.List.{length-append}
use Rattle.std.proofs.lemmas.List.Folds.{position_or_len_push}
use Rattle.std.proofs.lemmas.List.Sums.{prefix_len-le-length}

abbrev value : Option ℕ → ℕ
value None = 0
value (Some n) = n

abbrev place : ℕ → ℕ → Option ℕ
place n m = cond (nat_lt n m) (Some n) None

place_within : (n m : ℕ) → n < m → place n m ≡ Some n
place_within n m within = grind (arith, nat_tests, within)

place_past : (n m : ℕ) → m ≤ n → place n m ≡ None
place_past n m past = grind (arith, nat_tests, past)

is_within : (n m i : ℕ) → place n m ≡ Some i → (n ≡ i) × (n < m)
is_within n m i is = elim (nat_lt n m) as (λ t. nat_lt n m ≡ t → cond t (Some n) None ≡ Some i → (n ≡ i) × (n < m)) [
  | true ↦ λ lt at. (ap value at, ltb-true n m lt)
  | false ↦ λ lt at. absurd (cc at)
] refl is

is_past : (n m : ℕ) → place n m ≡ None → m ≤ n
is_past n m is = elim (nat_lt n m) as (λ t. nat_lt n m ≡ t → cond t (Some n) None ≡ None → m ≤ n) [
  | true ↦ λ lt at. absurd (cc at)
  | false ↦ λ lt at. ltb-false n m lt
] refl is

some_within : (n m : ℕ) → is_some (place n m) ≡ nat_lt n m
some_within n m = elim (nat_lt n m) as (λ t. is_some (cond t (Some n) None) ≡ t) [ true ↦ refl | false ↦ refl ]

next_test : (n m : ℕ) → nat_lt n m ≡ nat_lt (1 + n) (suc m)
next_test n m = grind (arith, nat_tests)

first_test : (m : ℕ) → true ≡ nat_lt 0 (suc m)
first_test m = grind (arith, nat_tests)

module _ {X : Type 0} (p : X → Bool) where
  any_within : (xs : List X) → nat_lt (position_or_len p xs) (length xs) ≡ list_any p xs
  any_within [] = refl
  any_within (x ∷ xs) = elim (p x) as (λ b. nat_lt (cond (not b) (1 + position_or_len p xs) 0) (length (x ∷ xs)) ≡ (b || list_any p xs)) [
    | true ↦ sym (first_test (length xs))
    | false ↦ sym (next_test (position_or_len p xs) (length xs)) ∙ any_within xs
  ]

  -- there is one where any passes
  pub found_any : (xs : List X) → is_some (position p xs) ≡ list_any p xs
  found_any xs = some_within (position_or_len p xs) (length xs) ∙ any_within xs

  -- it is the same where one more stands behind
  pub found_before : (xs : List X) (y : X) (i : ℕ) → position p xs ≡ Some i → position p (xs ++ y ∷ []) ≡ Some i
  found_before xs y i is =
      let at = is_within (position_or_len p xs) (length xs) i is in
      let other : (position_or_len p xs == length xs) ≡ false = grind (arith, nat_tests, at.1) in
      let stays : position_or_len p (xs ++ y ∷ []) ≡ position_or_len p xs = position_or_len_push p xs y ∙ ap (λ (b : Bool). cond b (length xs + cond (p y) 0 1) (position_or_len p xs)) other in
      let more : length (xs ++ y ∷ []) ≡ length xs + 1 = length-append xs (y ∷ []) in
      ap (λ (n : ℕ). place n (length (xs ++ y ∷ []))) stays
      ∙ place_within (position_or_len p xs) (length (xs ++ y ∷ [])) (omega (arith, at.1, more))
      ∙ ap (λ (n : ℕ). Some n) at.0

  -- or it is the last one's
  pub found_last : (xs : List X) (y : X) → position p xs ≡ None → position p (xs ++ y ∷ []) ≡ cond (p y) (Some (length xs)) None
  found_last xs y is =
      let past = is_past (position_or_len p xs) (length xs) is in
      let most : position_or_len p xs ≤ length xs = prefix_len-le-length (λ x. not (p x)) xs in
      let all : (position_or_len p xs == length xs) ≡ true = grind (arith, nat_tests, past, most) in
      let last : position_or_len p (xs ++ y ∷ []) ≡ length xs + cond (p y) 0 1 = position_or_len_push p xs y ∙ ap (λ (b : Bool). cond b (length xs + cond (p y) 0 1) (position_or_len p xs)) all in
      let more : length (xs ++ y ∷ []) ≡ length xs + 1 = length-append xs (y ∷ []) in
      ap (λ (n : ℕ). place n (length (xs ++ y ∷ []))) last
      ∙ ap (λ (n : ℕ). place (length xs + cond (p y) 0 1) n) more
      ∙ last_test (length xs) (p y)
    where
      last_test : (n : ℕ) (b : Bool) → place (n + cond b 0 1) (n + 1) ≡ cond b (Some n) None
      last_test n true = ap (λ (k : ℕ). place k (n + 1)) (omega arith) ∙ place_within n (n + 1) (omega arith)
      last_test n false = place_past (n + 1) (n + 1) (omega arith)

-- what is put at a place of a list
module _ {X : Type 0} where
  pub put_same : (xs : List X) (i : ℕ) (x y : X) → slice_get xs i ≡ Some y → slice_get (slice_set xs i x) i ≡ Some x
  put_same [] i x y there = absurd (cc there)
  put_same (z ∷ xs) zero x y there = refl
  put_same (z ∷ xs) (suc i) x y there = put_same xs i x y there

  pub put_other : (xs : List X) (i j : ℕ) (x : X) → j ≢ i → slice_get (slice_set xs i x) j ≡ slice_get xs j
  put_other [] i j x other = refl
  put_other (z ∷ xs) zero zero x other = absurd (other refl)
  put_other (z ∷ xs) zero (suc j) x other = refl
  put_other (z ∷ xs) (suc i) zero x other = refl
  put_other (z ∷ xs) (suc i) (suc j) x other = put_other xs i j x (λ same. other (ap suc same))
