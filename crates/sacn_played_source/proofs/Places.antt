-- The first element of a list that passes a test, at its place.
use Rattle.std.proofs.Common.{◌≡◌, ℕ, zero, suc, ◌+◌, ◌<◌, Bool, true, false, not, cond, List, [], ◌∷◌, length, map, find, get_or, set, Option, Some, None, refl, arith, ap, sym, ◌∙◌}
use Rattle.std.specs.List.{position_or_len}
use Rattle.std.specs.Option.{option_map}

one_more : (n : ℕ) → 1 + n ≡ suc n
one_more n = omega arith

module _ {X : Type 0} (p : X → Bool) where
  abbrev place : Bool → ℕ → ℕ
  place b n = cond (not b) (1 + n) 0

  -- it is found
  pub found_at : (xs : List X) (d : X) → position_or_len p xs < length xs → find p xs ≡ Some (get_or xs (position_or_len p xs) d)
  found_at [] d lt = absurd (omega (arith, lt))
  found_at (x ∷ xs) d lt =
      elim (p x) as (λ b. place b (position_or_len p xs) < suc (length xs) → cond b (Some x) (find p xs) ≡ Some (get_or (x ∷ xs) (place b (position_or_len p xs)) d)) [
        | true ↦ λ in_list. refl
        | false ↦ λ in_list. found_at xs d (omega (arith, in_list)) ∙ ap (λ (k : ℕ). Some (get_or (x ∷ xs) k d)) (sym (one_more (position_or_len p xs)))
      ] lt

  -- and passes
  pub passes_at : (xs : List X) (d : X) → position_or_len p xs < length xs → p (get_or xs (position_or_len p xs) d) ≡ true
  passes_at [] d lt = absurd (omega (arith, lt))
  passes_at (x ∷ xs) d lt =
      elim (p x) as (λ b. p x ≡ b → place b (position_or_len p xs) < suc (length xs) → p (get_or (x ∷ xs) (place b (position_or_len p xs)) d) ≡ true) [
        | true ↦ λ is in_list. is
        | false ↦ λ is in_list. ap (λ (k : ℕ). p (get_or (x ∷ xs) k d)) (one_more (position_or_len p xs)) ∙ passes_at xs d (omega (arith, in_list))
      ] refl lt

  -- where another that passes is put there, that is found
  pub found_anew : (xs : List X) (y : X) → p y ≡ true → position_or_len p xs < length xs → find p (set xs (position_or_len p xs) y) ≡ Some y
  found_anew [] y is lt = absurd (omega (arith, lt))
  found_anew (x ∷ xs) y is lt =
      elim (p x) as (λ b. p x ≡ b → place b (position_or_len p xs) < suc (length xs) → find p (set (x ∷ xs) (place b (position_or_len p xs)) y) ≡ Some y) [
        | true ↦ λ e in_list. ap (λ (b : Bool). cond b (Some y) (find p xs)) is
        | false ↦ λ e in_list.
            ap (λ (k : ℕ). find p (set (x ∷ xs) k y)) (one_more (position_or_len p xs))
            ∙ ap (λ (b : Bool). cond b (Some x) (find p (set xs (position_or_len p xs) y))) e
            ∙ found_anew xs y is (omega (arith, in_list))
      ] refl lt

  -- where one that doesn't pass is put in place of another, the same is found
  pub found_elsewhere : (xs : List X) (i : ℕ) (d y : X) → i < length xs → p (get_or xs i d) ≡ false → p y ≡ false → find p (set xs i y) ≡ find p xs
  found_elsewhere [] i d y lt before after = absurd (omega (arith, lt))
  found_elsewhere (x ∷ xs) zero d y lt before after = ap (λ (b : Bool). cond b (Some y) (find p xs)) after ∙ sym (ap (λ (b : Bool). cond b (Some x) (find p xs)) before)
  found_elsewhere (x ∷ xs) (suc i) d y lt before after = ap (λ (o : Option X). cond (p x) (Some x) o) (found_elsewhere xs i d y (omega (arith, lt)) before after)

  -- elements that are changed, and pass as before
  pub found_changed : (f : X → X) → ((x : X) → p (f x) ≡ p x) → (xs : List X) → find p (map f xs) ≡ option_map f (find p xs)
  found_changed f same [] = refl
  found_changed f same (x ∷ xs) =
      ap (λ (b : Bool). cond b (Some (f x)) (find p (map f xs))) (same x)
      ∙ elim (p x) as (λ b. cond b (Some (f x)) (find p (map f xs)) ≡ option_map f (cond b (Some x) (find p xs))) [
        | true ↦ refl
        | false ↦ found_changed f same xs
      ]

  -- none passes
  pub none_found : (xs : List X) (b : Bool) → (position_or_len p xs < length xs → b ≡ true) → b ≡ false → find p xs ≡ None
  none_found [] b h is = refl
  none_found (x ∷ xs) b h is =
      elim (p x) as (λ c. (place c (position_or_len p xs) < suc (length xs) → b ≡ true) → cond c (Some x) (find p xs) ≡ None) [
        | true ↦ λ k. absurd (let e = k (omega arith) in cc)
        | false ↦ λ k. none_found xs b (λ lt. k (omega (arith, lt))) is
      ] h

-- a value that stays the same is that of all
pub same_values : {X : Type 0} (g : X → ℕ) (xs : List X) (i : ℕ) (d y : X) → i < length xs → g y ≡ g (get_or xs i d) → map g (set xs i y) ≡ map g xs
same_values g [] i d y lt same = absurd (omega (arith, lt))
same_values g (x ∷ xs) zero d y lt same = ap (λ (n : ℕ). n ∷ map g xs) same
same_values g (x ∷ xs) (suc i) d y lt same = ap (λ (l : List ℕ). g x ∷ l) (same_values g xs i d y (omega (arith, lt)) same)

pub same_changed : {X : Type 0} (g : X → ℕ) (f : X → X) → ((x : X) → g (f x) ≡ g x) → (xs : List X) → map g (map f xs) ≡ map g xs
same_changed g f same [] = refl
same_changed g f same (x ∷ xs) = rw (same x) (ap (λ (l : List ℕ). g x ∷ l) (same_changed g f same xs))
