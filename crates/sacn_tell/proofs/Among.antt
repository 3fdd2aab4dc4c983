-- What is heard of a source, found among numbers that ascend.
use Rattle.std.proofs.Common.{◌≡◌, ◌==◌, ◌&&◌, ◌||◌, ℕ, Bool, true, false, cond, List, [], ◌∷◌, Result, Ok, Err, filter, map, refl, sym, ⊎_elim, arith}
use Rattle.std.specs.Prelude.{is_ok}
use Rattle.std.specs.Str.{bytes_eq}
use Rattle.std.specs.List.{list_any}
use Rattle.std.specs.List.Sorted.{IsNonDecreasing, IsBinarySearchResult}
use Rattle.std.specs.Ordering.{nat_cmp}
use Rattle.std.proofs.lemmas.Bool.{cases_lt, eq-eqb, ne_eqb}
use Rattle.std.proofs.lemmas.List.Elements.{All-from_get_or}
use Rattle.std.proofs.lemmas.List.Folds.{list_any_at, list_any_none}
use Rattle.std.proofs.lemmas.List.Sorted.{searched}
use Rattle.sacn_monitor.specs.declared.stream.Stream.{Stream}
use Rattle.sacn_tell.specs.Lists.{is_heard}

one_heard : (x r s : Bool) → r ≡ s → (x || r) ≡ ((x && true) || s)
one_heard true r s is = refl
one_heard false r s is = is

one_other : (x r s : Bool) → r ≡ s → r ≡ ((x && false) || s)
one_other true r s is = is
one_other false r s is = is

-- a universe is heard of a source if it is among those of its streams
pub heard_among : (universe : ℕ) (cid : List ℕ) (streams : List Stream) → list_any (λ n. n == universe) (map (λ s. s.universe) (filter (λ s. bytes_eq s.cid cid) streams)) ≡ is_heard streams cid universe
heard_among universe cid [] = refl
heard_among universe cid (s ∷ streams) =
    let rest = heard_among universe cid streams in
    elim (bytes_eq s.cid cid) as (λ b. list_any (λ n. n == universe) (map (λ s. s.universe) (cond b (s ∷ filter (λ s. bytes_eq s.cid cid) streams) (filter (λ s. bytes_eq s.cid cid) streams))) ≡ (((s.universe == universe) && b) || is_heard streams cid universe)) [
      | true ↦ one_heard (s.universe == universe) _ _ rest
      | false ↦ one_other (s.universe == universe) _ _ rest
    ]

-- what a binary search answers of numbers that ascend
pub found_among : (numbers : List ℕ) (number : ℕ) (r : Result ℕ ℕ) → IsBinarySearchResult (λ y. nat_cmp y number) numbers r → IsNonDecreasing numbers → is_ok r ≡ list_any (λ n. n == number) numbers
found_among numbers number (Ok i) found ascend =
    let at = searched numbers number (Ok i) found (λ i j le lt. ascend i j 0 le lt) in
    sym (list_any_at (λ n. n == number) numbers i 0 at.0 (eq-eqb _ _ at.1))
found_among numbers number (Err i) found ascend =
    let at = searched numbers number (Err i) found (λ i j le lt. ascend i j 0 le lt) in
    sym (list_any_none (λ n. n == number) numbers (All-from_get_or (λ n. (n == number) ≡ false) numbers 0 (λ k lt.
    ⊎_elim (λ before. ne_eqb _ _ (λ e. omega (arith, at.1 k before, e))) (λ after. ne_eqb _ _ (λ e. omega (arith, at.2 k after lt, e))) (cases_lt k i))))
