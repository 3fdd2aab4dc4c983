-- Finite maps as lists in order: what a change of each entry that keeps its source leaves alone.
use Rattle.std.proofs.Common.{◌≡◌, ℕ, Bool, true, List, [], ◌∷◌, map, Some, refl, sym, ap, subst, ◌∙◌, inl, inr, arith}
use Rattle.std.specs.Prelude.{filter, find, option_map}
use Rattle.std.specs.List.{AllByRecursion}
use Rattle.std.proofs.lemmas.Bool.{cases_Bool}
use Rattle.std.specs.declared.cmp.Ordering.TheVariants.{Less, Equal, Greater}
use Rattle.sacn_world.specs.Streams.{Sent}
use Rattle.sacn_world.specs.Holdings.{Hold, is_renewed, unexpired, hold_of, put}
use Rattle.sacn_world.specs.RowsOfPlaces.{seen, rows_of}
use Rattle.sacn_sources.specs.Order.{order, same, by_order}
use Rattle.sacn_sources.specs.Rows.{rows_kept, row_of, put_row}

-- what holds of each holds of the one that is found, and it passes
pub found : {X : Type 0} (P : X → Type 0) (test : X → Bool) (xs : List X) (x : X) → AllByRecursion P xs → find test xs ≡ Some x → P x × (test x ≡ true)
found P test [] x all is = absurd (cc)
found P test (y ∷ ys) x all is =
    elim (cases_Bool (test y)) [
      | inl pass ↦ let e : y ≡ x = grind (arith, pass, is) in (subst P e all.0, ap test (sym e) ∙ pass)
      | inr fail ↦ let f : find test ys ≡ Some x = grind (arith, fail, is) in found P test ys x all.1 f
    ]

pub find-map : {X Y : Type 0} (f : X → Y) (p : X → Bool) (q : Y → Bool) → ((x : X) → q (f x) ≡ p x) → (xs : List X) → find q (map f xs) ≡ option_map f (find p xs)
find-map f p q e [] = refl
find-map f p q e (x ∷ xs) = elim (cases_Bool (p x)) [
  | inl pass ↦ grind (arith, pass, e x)
  | inr fail ↦ grind (arith, fail, e x, find-map f p q e xs)
]

pub filter-map : {X Y : Type 0} (f : X → Y) (p : X → Bool) (q : Y → Bool) → ((x : X) → q (f x) ≡ p x) → (xs : List X) → filter q (map f xs) ≡ map f (filter p xs)
filter-map f p q e [] = refl
filter-map f p q e (x ∷ xs) = elim (cases_Bool (p x)) [
  | inl pass ↦ grind (arith, pass, e x, filter-map f p q e xs)
  | inr fail ↦ grind (arith, fail, e x, filter-map f p q e xs)
]

module _ (u : ℕ) (sent : List Sent) where
  pub kept_seen : (t : ℕ) (hs : List Hold) → rows_kept t (rows_of u sent hs) ≡ rows_of u sent (unexpired t hs)
  kept_seen t hs = filter-map (seen u sent) (is_renewed t) _ (λ x. refl) hs

  pub row_of_seen : (s : List ℕ) (hs : List Hold) → row_of s (rows_of u sent hs) ≡ option_map (seen u sent) (hold_of s hs)
  row_of_seen s hs = find-map (seen u sent) (λ h. same s h.source) _ (λ x. refl) hs

  pub put_seen : (n : Hold) (hs : List Hold) → put_row (seen u sent n) (rows_of u sent hs) ≡ rows_of u sent (put n hs)
  put_seen n [] = refl
  put_seen n (h ∷ hs) =
      elim (order n.source h.source) as (λ o. by_order o (seen u sent n ∷ seen u sent h ∷ rows_of u sent hs) (seen u sent n ∷ rows_of u sent hs) (seen u sent h ∷ put_row (seen u sent n) (rows_of u sent hs)) ≡ rows_of u sent (by_order o (n ∷ h ∷ hs) (n ∷ hs) (h ∷ put n hs))) [
        | Less ↦ refl
        | Equal ↦ refl
        | Greater ↦ ap (λ rs. seen u sent h ∷ rs) (put_seen n hs)
      ]
