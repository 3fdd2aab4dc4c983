-- What is lost in all tables, by the oldest of their rows.
use Rattle.std.proofs.Common.{Option, Some, None, SomeIff, IfSome, IfNone, max, ◌≡◌, ℕ, zero, suc, ◌+◌, ◌-◌, ◌^◌, ◌<◌, ◌≤◌, min, List, [], ◌∷◌, map, length, get_or, set, refl, ap, ◌∙◌, arith, inl, inr}
use Rattle.std.proofs.lemmas.Bool.{cases_lt}
use Rattle.std.proofs.lemmas.List.Sums.{sum_by-cons}
use Rattle.sacn_sources.specs.Rows.{rows_lost}
use Rattle.sacn_sources.specs.Wakes.{oldest_by, oldest_of}
use Rattle.sacn_sources.proofs.Wakes.{none_while, some_then, kept_while, kept_young}
use Rattle.sacn_node.specs.declared.tables.OneUniverse.{OneUniverse}
use Rattle.sacn_node.specs.Cores.{Table, rows_lost_all, rows_kept_all}
use Rattle.sacn_node.specs.Storage.{seen}
use Rattle.sacn_node.specs.Wakes.{oldest_in}

pub oldest_seen : (os : List OneUniverse) → oldest_by (λ (o : OneUniverse). oldest_of o.table.table.rows) os ≡ oldest_in (map seen os)
oldest_seen [] = refl
oldest_seen (o ∷ os) = ap (min (oldest_of o.table.table.rows)) (oldest_seen os)

module _ (t : ℕ) where
  abbrev lost : Table → ℕ
  lost g = rows_lost t g.rows

  pub none_lost_while : (gs : List Table) → t - oldest_in gs < 2500 → rows_lost_all t gs ≡ 0
  none_lost_while [] lt = refl
  none_lost_while (g ∷ gs) lt =
      let here = none_while t g.rows (omega arith) in
      let rest = none_lost_while gs (omega arith) in
      omega (arith, sum_by-cons lost g gs, here, rest)

  pub some_lost_then : (gs : List Table) → oldest_in gs + 2500 ≤ t → t < 2 ^ 64 → 1 ≤ rows_lost_all t gs
  some_lost_then [] le lt = absurd (omega arith)
  some_lost_then (g ∷ gs) le lt = elim (cases_lt (oldest_in gs) (oldest_of g.rows)) [
    | inl later ↦ let rest = some_lost_then gs (omega arith) lt in omega (arith, sum_by-cons lost g gs, rest)
    | inr first ↦ let here = some_then t g.rows (omega arith) lt in omega (arith, sum_by-cons lost g gs, here)
  ]

  -- tables of which no row is lost are kept as they are
  pub kept_all_while : (gs : List Table) → t - oldest_in gs < 2500 → rows_kept_all t gs ≡ gs
  kept_all_while [] lt = refl
  kept_all_while (g ∷ gs) lt =
      ap (λ rs. let kept : Table = record { universe = g.universe; rows = rs } in kept ∷ rows_kept_all t gs) (kept_while t g.rows (omega arith))
      ∙ ap (λ l. g ∷ l) (kept_all_while gs (omega arith))

  pub kept_all_young : (gs : List Table) → t < 2 ^ 64 → t - oldest_in (rows_kept_all t gs) < 2500
  kept_all_young [] lt = omega arith
  kept_all_young (g ∷ gs) lt = omega (arith, kept_young t g.rows lt, kept_all_young gs lt)

-- one table among them
pub oldest_there : (os : List OneUniverse) (at : ℕ) (d : OneUniverse) → at < length os → oldest_in (map seen os) ≤ oldest_of (get_or os at d).table.table.rows
oldest_there [] at d lt = absurd (omega arith)
oldest_there (o ∷ os) zero d lt = omega arith
oldest_there (o ∷ os) (suc at) d lt = omega (arith, oldest_there os at d (omega arith))

pub oldest_set : (os : List OneUniverse) (at : ℕ) (o : OneUniverse) → min (oldest_of o.table.table.rows) (oldest_in (map seen os)) ≤ oldest_in (map seen (set os at o))
oldest_set [] at o = omega arith
oldest_set (x ∷ os) zero o = omega arith
oldest_set (x ∷ os) (suc at) o = omega (arith, oldest_set os at o)

-- what a wake says of tables whose oldest row is this old
module _ (moment earliest oldest : ℕ) (gs : List Table) (oldest_is : oldest ≡ oldest_in gs) (rows : earliest ≤ oldest_in gs) (young : moment - earliest < 2500) where
  pub wakes_never : (wake : Option ℕ) → SomeIff wake (oldest + 2500 < 2 ^ 64) (oldest + 2500) → IfNone wake ((t : ℕ) → t < 2 ^ 64 → rows_lost_all (max moment t) gs ≡ 0)
  wakes_never (Some w) is = tt
  wakes_never None is = λ t lt. none_lost_while (max moment t) gs (omega (arith, oldest_is, rows, young, is))

  pub wakes_asleep : (wake : Option ℕ) → SomeIff wake (oldest + 2500 < 2 ^ 64) (oldest + 2500) → IfSome wake (λ w. (t : ℕ) → t < w → rows_lost_all (max moment t) gs ≡ 0)
  wakes_asleep None is = tt
  wakes_asleep (Some w) is = λ t lt. none_lost_while (max moment t) gs (omega (arith, oldest_is, rows, young, is))

  pub wakes_awake : (wake : Option ℕ) → SomeIff wake (oldest + 2500 < 2 ^ 64) (oldest + 2500) → IfSome wake (λ w. 1 ≤ rows_lost_all (max moment w) gs)
  wakes_awake None is = tt
  wakes_awake (Some w) is = some_lost_then (max moment w) gs (omega (arith, oldest_is, is)) (omega (arith, oldest_is, rows, young, is))
