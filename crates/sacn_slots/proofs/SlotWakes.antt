-- What was given for slots and is lost, by the oldest of it.
use Rattle.std.proofs.Common.{◌≡◌, ℕ, zero, suc, ◌+◌, ◌-◌, ◌^◌, ◌<◌, ◌≤◌, min, max, nat_lt, Bool, true, false, cond, not, ◌||◌, List, [], ◌∷◌, take, filter, Option, Some, None, IfSome, IfNone, refl, sym, ap, subst, ◌∙◌, arith, inl, inr}
use Rattle.std.specs.List.{list_any}
use Rattle.std.proofs.lemmas.Bool.{cases_lt, and_parts}
use Rattle.std.proofs.lemmas.Bool.Decides.{nat_tests}
use Rattle.sacn_packets.specs.Data.{Data}
use Rattle.sacn_sources.specs.Rows.{Row, rows_lost}
use Rattle.sacn_sources.specs.declared.limits.TheConstants.{MAX_SOURCES}
use Rattle.sacn_slots.specs.SlotTables.{SlotSources, counts, given_by, give, is_by, without}
use Rattle.sacn_slots.specs.SlotWakes.{oldest_given, is_old, IsYoung, NothingIsLost, SomethingIsLost}
use Rattle.sacn_slots.specs.declared.given.Given.{Given}

young : (t m : ℕ) → t - m < 2500 → not (nat_lt (t - m) 2500) ≡ false
young t m lt = grind (arith, nat_tests)

old : (t m : ℕ) → m + 2500 ≤ t → not (nat_lt (t - m) 2500) ≡ true
old t m le = let age : 2500 ≤ t - m = omega arith in grind (arith, nat_tests)

is_young : (age : ℕ) → nat_lt age 2500 ≡ true → age < 2500
is_young age is = grind (arith, nat_tests)

-- while the oldest isn't lost, none is
pub none_old : (t : ℕ) (gs : List Given) → IsYoung t gs → list_any (is_old t) gs ≡ false
none_old t [] lt = refl
none_old t (g ∷ gs) lt = ap (λ b. b || list_any (is_old t) gs) (young t g.moment (omega arith)) ∙ none_old t gs (omega arith)

-- once the oldest is lost, one is
pub some_old : (t : ℕ) (gs : List Given) → oldest_given gs + 2500 ≤ t → t < 2 ^ 64 → list_any (is_old t) gs ≡ true
some_old t [] le lt = absurd (omega arith)
some_old t (g ∷ gs) le lt = elim (cases_lt (oldest_given gs) g.moment) [
  | inl later ↦ or_right (is_old t g) _ (some_old t gs (omega arith) lt)
  | inr first ↦ ap (λ b. b || list_any (is_old t) gs) (old t g.moment (omega arith))
]
  where
    or_right : (a b : Bool) → b ≡ true → (a || b) ≡ true
    or_right true b is = refl
    or_right false b is = is

-- ---- what is left of it

left_oldest : (p : Given → Bool) (gs : List Given) → oldest_given gs ≤ oldest_given (filter p gs)
left_oldest p [] = omega arith
left_oldest p (g ∷ gs) = elim (p g) as (λ b. min g.moment (oldest_given gs) ≤ oldest_given (cond b (g ∷ filter p gs) (filter p gs))) [
  | true ↦ omega (arith, left_oldest p gs)
  | false ↦ omega (arith, left_oldest p gs)
]

pub most : (gs : List Given) → oldest_given gs ≤ 2 ^ 64 - 1
most [] = omega arith
most (g ∷ gs) = omega (arith, most gs)

front_oldest : (n : ℕ) (gs : List Given) → oldest_given gs ≤ oldest_given (take n gs)
front_oldest zero gs = most gs
front_oldest (suc n) [] = omega arith
front_oldest (suc n) (g ∷ gs) = omega (arith, front_oldest n gs)

-- a sweep leaves what is young
pub swept_young : (t : ℕ) (rows : List Row) (gs : List Given) → t < 2 ^ 64 → IsYoung t (filter (counts t rows) gs)
swept_young t rows [] lt = omega arith
swept_young t rows (g ∷ gs) lt =
    let rest = swept_young t rows gs lt in
    elim (counts t rows g) as (λ b. counts t rows g ≡ b → IsYoung t (cond b (g ∷ filter (counts t rows) gs) (filter (counts t rows) gs))) [
      | true ↦ λ is. let here = is_young (t - g.moment) (and_parts (nat_lt (t - g.moment) 2500) _ is).0 in omega (arith, rest, here)
      | false ↦ λ is. rest
    ] refl

-- what is given, or forgotten, leaves what is young
pub forgotten_young : (t : ℕ) (cid : List ℕ) (gs : List Given) → IsYoung t gs → IsYoung t (without cid gs)
forgotten_young t cid gs y = omega (arith, y, left_oldest (λ g. not (is_by cid g)) gs)

pub given_young : (t : ℕ) (d : Data) (gs : List Given) → t < 2 ^ 64 → IsYoung t gs → IsYoung t (give (given_by t d) gs)
given_young t d gs lt y = omega (arith, y, front_oldest (MAX_SOURCES - 1) (without d.cid gs), left_oldest (λ g. not (is_by d.cid g)) gs)

-- ---- what is lost first

module _ (s : SlotSources) (oldest : ℕ) (oldest_is : oldest ≡ oldest_given s.given) (is_young : IsYoung s.sources.table.moment s.given) where
  pub nothing : (t : ℕ) → rows_lost (max s.sources.table.moment t) s.sources.table.rows ≡ 0 → t < oldest + 2500 → NothingIsLost s t
  nothing t sources lt = record { sources = sources; given = none_old (max s.sources.table.moment t) s.given (omega (arith, oldest_is, is_young, lt)) }

  pub something : (w : ℕ) → w ≡ oldest + 2500 → w < 2 ^ 64 → SomethingIsLost s w
  something w is lt = inr (some_old (max s.sources.table.moment w) s.given (omega (arith, is, oldest_is)) (omega (arith, is, lt, oldest_is, is_young)))

  pub never : (wake : Option ℕ) → 2 ^ 64 ≤ oldest + 2500 → IfNone wake ((t : ℕ) → t < 2 ^ 64 → rows_lost (max s.sources.table.moment t) s.sources.table.rows ≡ 0) → IfNone wake ((t : ℕ) → t < 2 ^ 64 → NothingIsLost s t)
  never (Some w) past h = tt
  never None past h = λ t lt. nothing t (h t lt) (omega (arith, past, lt))

  pub asleep : (wake : Option ℕ) → 2 ^ 64 ≤ oldest + 2500 → IfSome wake (λ w. w < 2 ^ 64) → IfSome wake (λ w. (t : ℕ) → t < w → rows_lost (max s.sources.table.moment t) s.sources.table.rows ≡ 0) → IfSome wake (λ w. (t : ℕ) → t < w → NothingIsLost s t)
  asleep None past fits h = tt
  asleep (Some w) past fits h = λ t lt. nothing t (h t lt) (omega (arith, past, lt, fits))

  pub first_awake : (source given : ℕ) → given ≡ oldest + 2500 → given < 2 ^ 64 → 1 ≤ rows_lost (max s.sources.table.moment source) s.sources.table.rows → SomethingIsLost s (min source given)
  first_awake source given is lt lost = elim (cases_lt given source) [
    | inl earlier ↦ subst (SomethingIsLost s) (omega arith) (something given is lt)
    | inr later ↦ subst (SomethingIsLost s) (omega arith) (inl lost)
  ]
