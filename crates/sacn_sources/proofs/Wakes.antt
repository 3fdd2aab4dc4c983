-- Rows that are lost, by the oldest of them.
use Rattle.std.proofs.Common.{SomeIff, IfSome, IfNone, ◌≡◌, ℕ, suc, ◌+◌, ◌-◌, ◌^◌, ◌<◌, ◌≤◌, min, max, nat_lt, Bool, true, false, cond, not, ◌&&◌, ◌||◌, List, [], ◌∷◌, length, find, Option, Some, None, is_some, refl, sym, ap, subst, ◌∙◌, arith, inl, inr}
use Rattle.std.specs.declared.cmp.Ordering.TheVariants.{Less, Equal, Greater}
use Rattle.std.proofs.lemmas.Bool.{cases_lt}
use Rattle.std.proofs.lemmas.Bool.Decides.{nat_tests}
use Rattle.std.proofs.lemmas.Option.{same_Some}
use Rattle.sacn_sources.specs.declared.entry.Entry.{Entry}
use Rattle.sacn_sources.specs.Order.{order, same, by_order}
use Rattle.sacn_sources.specs.Rows.{Row, Table, Packet, Held, Observed, EndedNow, OutOfSequence, SourcesExceeded, UnknownIgnored, row_renewed, rows_kept, rows_lost, row_of, put_row, row_live, row_ended, row_observed, observed, rows_after, taken, take_row, after_expire}
use Rattle.sacn_sources.specs.LatestMerge.{loses_live}
use Rattle.sacn_sources.specs.Storage.{Frames, rows_in}
use Rattle.sacn_sources.specs.Wakes.{oldest_by, oldest_of, IsFresh}

pub oldest_most : {X : Type 0} (moment : X → ℕ) (xs : List X) → oldest_by moment xs ≤ 2 ^ 64 - 1
oldest_most moment [] = omega arith
oldest_most moment (x ∷ xs) = omega (arith, oldest_most moment xs)

-- entries and their rows have the same moments
pub oldest_stored : (fr : Frames) (es : List Entry) → oldest_by (λ (e : Entry). e.moment) es ≡ oldest_of (rows_in fr es)
oldest_stored fr [] = refl
oldest_stored fr (e ∷ es) = ap (min e.moment) (oldest_stored fr es)

young : (t m : ℕ) → t - m < 2500 → nat_lt (t - m) 2500 ≡ true
young t m lt = grind (arith, nat_tests)

old : (t m : ℕ) → m + 2500 ≤ t → nat_lt (t - m) 2500 ≡ false
old t m le = let age : 2500 ≤ t - m = omega arith in grind (arith, nat_tests)

-- while the oldest isn't lost, none is
pub kept_while : (t : ℕ) (rs : List Row) → t - oldest_of rs < 2500 → rows_kept t rs ≡ rs
kept_while t [] lt = refl
kept_while t (r ∷ rs) lt =
    ap (λ b. cond b (r ∷ rows_kept t rs) (rows_kept t rs)) (young t r.moment (omega arith))
    ∙ ap (λ l. r ∷ l) (kept_while t rs (omega arith))

pub none_while : (t : ℕ) (rs : List Row) → t - oldest_of rs < 2500 → rows_lost t rs ≡ 0
none_while t rs lt = let same = ap length (kept_while t rs lt) in omega (arith, same)

left : (t : ℕ) (rs : List Row) → length (rows_kept t rs) ≤ length rs
left t [] = omega arith
left t (r ∷ rs) = elim (row_renewed t r) as (λ b. length (cond b (r ∷ rows_kept t rs) (rows_kept t rs)) ≤ suc (length rs)) [
  | true ↦ omega (arith, left t rs)
  | false ↦ omega (arith, left t rs)
]

-- once the oldest is lost, one is
pub some_then : (t : ℕ) (rs : List Row) → oldest_of rs + 2500 ≤ t → t < 2 ^ 64 → 1 ≤ rows_lost t rs
some_then t [] le lt = absurd (omega arith)
some_then t (r ∷ rs) le lt = elim (cases_lt (oldest_of rs) r.moment) [
  | inl later ↦
      let rest : 1 ≤ rows_lost t rs = some_then t rs (omega arith) lt in
      elim (row_renewed t r) as (λ b. 1 ≤ suc (length rs) - length (cond b (r ∷ rows_kept t rs) (rows_kept t rs))) [
        | true ↦ omega (arith, rest)
        | false ↦ omega (arith, left t rs)
      ]
  | inr first ↦
      let gone : length (rows_kept t (r ∷ rs)) ≡ length (rows_kept t rs) = ap (λ b. length (cond b (r ∷ rows_kept t rs) (rows_kept t rs))) (old t r.moment (omega arith)) in
      omega (arith, gone, left t rs)
]

-- ---- rows after a sweep, and after a packet

pub quiet_while : (t : ℕ) (rs : List Row) → t - oldest_of rs < 2500 → loses_live t rs ≡ false
quiet_while t [] lt = refl
quiet_while t (r ∷ rs) lt =
    ap (λ b. (not b && is_some r.shown) || loses_live t rs) (young t r.moment (omega arith))
    ∙ quiet_while t rs (omega arith)

pub kept_young : (t : ℕ) (rs : List Row) → t < 2 ^ 64 → t - oldest_of (rows_kept t rs) < 2500
kept_young t [] lt = omega arith
kept_young t (r ∷ rs) lt =
    let rest = kept_young t rs lt in
    elim (row_renewed t r) as (λ b. nat_lt (t - r.moment) 2500 ≡ b → t - oldest_of (cond b (r ∷ rows_kept t rs) (rows_kept t rs)) < 2500) [
      | true ↦ λ is. let here = is_young (t - r.moment) is in omega (arith, rest, here)
      | false ↦ λ is. rest
    ] refl
  where
    is_young : (age : ℕ) → nat_lt age 2500 ≡ true → age < 2500
    is_young age is = grind (arith, nat_tests)

pub kept_oldest : (t : ℕ) (rs : List Row) → oldest_of rs ≤ oldest_of (rows_kept t rs)
kept_oldest t [] = omega arith
kept_oldest t (r ∷ rs) = elim (row_renewed t r) as (λ b. min r.moment (oldest_of rs) ≤ oldest_of (cond b (r ∷ rows_kept t rs) (rows_kept t rs))) [
  | true ↦ omega (arith, kept_oldest t rs)
  | false ↦ omega (arith, kept_oldest t rs)
]

put_oldest : (n : Row) (rs : List Row) → min n.moment (oldest_of rs) ≤ oldest_of (put_row n rs)
put_oldest n [] = omega arith
put_oldest n (r ∷ rs) = elim (order n.source r.source) as (λ o. min n.moment (min r.moment (oldest_of rs)) ≤ oldest_of (by_order o (n ∷ r ∷ rs) (n ∷ rs) (r ∷ put_row n rs))) [
  | Less ↦ omega arith
  | Equal ↦ omega arith
  | Greater ↦ omega (arith, put_oldest n rs)
]

found_oldest : (p : Row → Bool) (rs : List Row) (r : Row) → find p rs ≡ Some r → oldest_of rs ≤ r.moment
found_oldest p [] r is = absurd (cc)
found_oldest p (q ∷ qs) r is = elim (p q) as (λ b. cond b (Some q) (find p qs) ≡ Some r → min q.moment (oldest_of qs) ≤ r.moment) [
  | true ↦ λ e. let same = ap (λ (x : Row). x.moment) (same_Some q r e) in omega (arith, same)
  | false ↦ λ e. omega (arith, found_oldest p qs r e)
] is

observed_oldest : (x : Packet) (t : ℕ) (rs : List Row) (o : Option Row) → row_of x.source rs ≡ o → min t (oldest_of rs) ≤ oldest_of (observed x o rs)
observed_oldest x t rs None is = omega arith
observed_oldest x t rs (Some r) is = omega (arith, put_oldest (row_observed x r) rs, found_oldest (λ q. same x.source q.source) rs r is)

pub taken_oldest : (x : Packet) (t : ℕ) (rs : List Row) → min t (oldest_of rs) ≤ oldest_of (take_row x t rs)
taken_oldest x t rs = elim (taken x rs) as (λ a. min t (oldest_of rs) ≤ oldest_of (rows_after a x t rs)) [
  | Held ↦ put_oldest (row_live x t) rs
  | EndedNow ↦ put_oldest (row_ended x t) rs
  | Observed ↦ observed_oldest x t rs (row_of x.source rs) refl
  | OutOfSequence ↦ omega arith
  | SourcesExceeded ↦ omega arith
  | UnknownIgnored ↦ omega arith
]

-- ---- the bound

pub fresh_swept : (earliest : ℕ) (now : ℕ) (table new : Table) → new ≡ after_expire now table → new.moment < 2 ^ 64 → earliest ≡ min (oldest_of new.rows) new.moment → IsFresh earliest new
fresh_swept earliest now table new is fits earliest_is =
    let young : new.moment - oldest_of new.rows < 2500 = swept new is fits in
    record { rows = omega (arith, earliest_is); past = omega (arith, earliest_is); young = omega (arith, earliest_is, young) }
  where
    swept : (new : Table) → new ≡ after_expire now table → new.moment < 2 ^ 64 → new.moment - oldest_of new.rows < 2500
    swept new is = subst (λ (new : Table). new.moment < 2 ^ 64 → new.moment - oldest_of new.rows < 2500) (sym is) (kept_young (max table.moment now) table.rows)

-- the clock alone moves, not yet as far as that one is lost
pub fresh_moved : (earliest now : ℕ) (table new : Table) → IsFresh earliest table → max table.moment now - earliest < 2500 → new ≡ record table { moment = max table.moment now } → IsFresh earliest new
fresh_moved earliest now table new fresh young is =
    subst (IsFresh earliest) (sym is) (record { rows = fresh.rows; past = omega (arith, fresh.past); young = young })

pub fresh_taken : (earliest : ℕ) (x : Packet) (table new : Table) → IsFresh earliest table → new ≡ record table { rows = take_row x table.moment table.rows } → IsFresh earliest new
fresh_taken earliest x table new fresh is =
    subst (IsFresh earliest) (sym is) (record { rows = omega (arith, fresh.rows, fresh.past, taken_oldest x table.moment table.rows); past = fresh.past; young = fresh.young })

-- then nothing is lost
module _ (earliest now : ℕ) (table : Table) (fresh : IsFresh earliest table) (young : max table.moment now - earliest < 2500) where
  abbrev t : ℕ
  t = max table.moment now

  pub expires_none : (let moved : Table = record table { moment = t } in moved ≡ after_expire now table)
  expires_none = ap (λ rs. let after : Table = record { rows = rs; moment = t } in after) (sym (kept_while t table.rows (omega (arith, young, fresh.rows))))

  pub loses_none : rows_lost t table.rows ≡ 0
  loses_none = none_while t table.rows (omega (arith, young, fresh.rows))

  pub loses_no_live : loses_live t table.rows ≡ false
  loses_no_live = quiet_while t table.rows (omega (arith, young, fresh.rows))

-- what a wake says of a table whose oldest row is this old
module _ (earliest oldest : ℕ) (table : Table) (fresh : IsFresh earliest table) (oldest_is : oldest ≡ oldest_of table.rows) where
  pub wakes_never : (wake : Option ℕ) → SomeIff wake (oldest + 2500 < 2 ^ 64) (oldest + 2500) → IfNone wake ((t : ℕ) → t < 2 ^ 64 → rows_lost (max table.moment t) table.rows ≡ 0)
  wakes_never (Some w) is = tt
  wakes_never None is = λ t lt. none_while (max table.moment t) table.rows (omega (arith, oldest_is, fresh.rows, fresh.young, is))

  pub wakes_asleep : (wake : Option ℕ) → SomeIff wake (oldest + 2500 < 2 ^ 64) (oldest + 2500) → IfSome wake (λ w. (t : ℕ) → t < w → rows_lost (max table.moment t) table.rows ≡ 0)
  wakes_asleep None is = tt
  wakes_asleep (Some w) is = λ t lt. none_while (max table.moment t) table.rows (omega (arith, oldest_is, fresh.rows, fresh.young, is))

  pub wakes_awake : (wake : Option ℕ) → SomeIff wake (oldest + 2500 < 2 ^ 64) (oldest + 2500) → IfSome wake (λ w. 1 ≤ rows_lost (max table.moment w) table.rows)
  wakes_awake None is = tt
  wakes_awake (Some w) is = some_then (max table.moment w) table.rows (omega (arith, oldest_is, is)) (omega (arith, oldest_is, fresh.rows, fresh.young, is))
