-- No source that a node holds is lost before its wake.
use Rattle.std.proofs.Common.{◌≡◌, ℕ, suc, ◌+◌, ◌-◌, ◌<◌, ◌≤◌, max, nat_lt, nat_eq, Bool, true, false, cond, List, [], ◌∷◌, length, filter, Some, Ok, Err, refl, sym, ap, subst, arith}
use Rattle.std.specs.Prelude.{⊤}
use Rattle.std.specs.declared.cmp.Ordering.TheVariants.{Less, Equal, Greater}
use Rattle.std.proofs.lemmas.Bool.{lt-ltb, ltb-true}
use Rattle.std.proofs.lemmas.List.Sums.{sum_by-cons}
use Rattle.sacn_packets.specs.declared.framing.packet.Packet.TheVariants.{DataPacket, PagePacket, SyncPacket}
use Rattle.sacn_sources.specs.declared.answer.Taken.{Taken}
use Rattle.sacn_sources.specs.declared.answer.Taken.TheVariants.{Held, Observed, EndedNow, OutOfSequence, SourcesExceeded, UnknownIgnored}
use Rattle.sacn_sources.specs.Order.{order, same, by_order}
use Rattle.sacn_sources.specs.Packets.{packet_of}
use Rattle.sacn_sources.specs.Rows.{Row, Packet as RowPacket, row_renewed, rows_kept, rows_lost, row_of, put_row, row_live, row_ended, row_observed, rows_after, observed, take_row, taken}
use Rattle.sacn_node.specs.Cores.{Core, Table, change_rows, core_at, core_lost, rows_kept_all, rows_lost_all}
use Rattle.sacn_node.specs.Readings.{Reading, after_reading}

abbrev Renewed : ℕ → List Row → Type 0
Renewed t [] = ⊤
Renewed t (r ∷ rs) = (row_renewed t r ≡ true) × Renewed t rs

abbrev AllRenewed : ℕ → List Table → Type 0
AllRenewed t [] = ⊤
AllRenewed t (g ∷ gs) = Renewed t g.rows × AllRenewed t gs

renewed_kept : (t : ℕ) (rs : List Row) → Renewed t rs → rows_kept t rs ≡ rs
renewed_kept t [] all = refl
renewed_kept t (r ∷ rs) all = rw all.0 (ap (λ l. r ∷ l) (renewed_kept t rs all.1))

kept_few : {X : Type 0} (p : X → Bool) (xs : List X) → length (filter p xs) ≤ length xs
kept_few p [] = omega arith
kept_few p (x ∷ xs) =
    elim (p x) as (λ b. length (cond b (x ∷ filter p xs) (filter p xs)) ≤ suc (length xs)) [
      | true ↦ let rest = kept_few p xs in omega (arith, rest)
      | false ↦ let rest = kept_few p xs in omega (arith, rest)
    ]

all_renewed : (t : ℕ) (rs : List Row) → length rs ≤ length (rows_kept t rs) → Renewed t rs
all_renewed t [] many = tt
all_renewed t (r ∷ rs) many =
    elim (row_renewed t r) as (λ b. row_renewed t r ≡ b → suc (length rs) ≤ length (cond b (r ∷ rows_kept t rs) (rows_kept t rs)) → (row_renewed t r ≡ true) × Renewed t rs) [
      | true ↦ λ is long. (is, all_renewed t rs (omega (arith, long)))
      | false ↦ λ is long. let few = kept_few (row_renewed t) rs in absurd (omega (arith, long, few))
    ] refl many

none_lost : (t : ℕ) (gs : List Table) → AllRenewed t gs → rows_lost_all t gs ≡ 0
none_lost t [] all = refl
none_lost t (g ∷ gs) all =
    let sum : rows_lost_all t (g ∷ gs) ≡ rows_lost t g.rows + rows_lost_all t gs = sum_by-cons (λ (x : Table). rows_lost t x.rows) g gs in
    let same = ap length (renewed_kept t g.rows all.0) in
    let rest = none_lost t gs all.1 in
    omega (arith, sum, same, rest)

renewed_all : (t : ℕ) (gs : List Table) → rows_lost_all t gs ≡ 0 → AllRenewed t gs
renewed_all t [] none = tt
renewed_all t (g ∷ gs) none =
    let sum : rows_lost_all t (g ∷ gs) ≡ rows_lost t g.rows + rows_lost_all t gs = sum_by-cons (λ (x : Table). rows_lost t x.rows) g gs in
    let first : rows_lost t g.rows ≡ 0 = omega (arith, sum, none) in
    let rest : rows_lost_all t gs ≡ 0 = omega (arith, sum, none) in
    (all_renewed t g.rows (omega (arith, first)), renewed_all t gs rest)

-- rows that aren't lost at k, nor at t, aren't at the later of the two
both_renewed : (t k latest : ℕ) → nat_lt (t - latest) 2500 ≡ true → nat_lt (k - latest) 2500 ≡ true → (u : ℕ) → u ≤ max t k → nat_lt (u - latest) 2500 ≡ true
both_renewed t k latest first second u le =
    let a = ltb-true (t - latest) 2500 first in
    let b = ltb-true (k - latest) 2500 second in
    lt-ltb (u - latest) 2500 (omega (arith, a, b, le))

kept_renewed : (t k u : ℕ) → u ≤ max t k → (rs : List Row) → Renewed k rs → Renewed u (rows_kept t rs)
kept_renewed t k u le [] all = tt
kept_renewed t k u le (r ∷ rs) all =
    elim (row_renewed t r) as (λ b. row_renewed t r ≡ b → Renewed u (cond b (r ∷ rows_kept t rs) (rows_kept t rs))) [
      | true ↦ λ is. (both_renewed t k r.moment is all.0 u le, kept_renewed t k u le rs all.1)
      | false ↦ λ is. kept_renewed t k u le rs all.1
    ] refl

all_kept_renewed : (t k u : ℕ) → u ≤ max t k → (gs : List Table) → AllRenewed k gs → AllRenewed u (rows_kept_all t gs)
all_kept_renewed t k u le [] all = tt
all_kept_renewed t k u le (g ∷ gs) all = (kept_renewed t k u le g.rows all.0, all_kept_renewed t k u le gs all.1)

put_renewed : (u : ℕ) (n : Row) (rs : List Row) → row_renewed u n ≡ true → Renewed u rs → Renewed u (put_row n rs)
put_renewed u n [] new all = (new, tt)
put_renewed u n (r ∷ rs) new all =
    elim (order n.source r.source) as (λ o. Renewed u (by_order o (n ∷ r ∷ rs) (n ∷ rs) (r ∷ put_row n rs))) [
      | Less ↦ (new, all)
      | Equal ↦ (new, all.1)
      | Greater ↦ (all.0, put_renewed u n rs new all.1)
    ]

observed_renewed : (u : ℕ) (x : RowPacket) (s : List ℕ) (all rs : List Row) → Renewed u all → Renewed u rs → Renewed u (observed x (row_of s rs) all)
observed_renewed u x s all [] kept rest = kept
observed_renewed u x s all (r ∷ rs) kept rest =
    elim (same s r.source) as (λ b. Renewed u (observed x (cond b (Some r) (row_of s rs)) all)) [
      | true ↦ put_renewed u (row_observed x r) all rest.0 kept
      | false ↦ observed_renewed u x s all rs kept rest.1
    ]

module _ (t u : ℕ) (x : RowPacket) (young : nat_lt (u - t) 2500 ≡ true) where
  after_renewed : (answer : Taken) (rs : List Row) → Renewed u rs → Renewed u (rows_after answer x t rs)
  after_renewed Held rs all = put_renewed u (row_live x t) rs young all
  after_renewed EndedNow rs all = put_renewed u (row_ended x t) rs young all
  after_renewed Observed rs all = observed_renewed u x x.source rs rs all all
  after_renewed OutOfSequence rs all = all
  after_renewed SourcesExceeded rs all = all
  after_renewed UnknownIgnored rs all = all

  change_renewed : (universe : ℕ) (gs : List Table) → AllRenewed u gs → AllRenewed u (change_rows universe (take_row x t) gs)
  change_renewed universe [] all = all
  change_renewed universe (g ∷ gs) all =
      elim (nat_eq g.universe universe) as (λ b. AllRenewed u (cond b (record { universe = g.universe; rows = take_row x t g.rows } ∷ gs) (g ∷ change_rows universe (take_row x t) gs))) [
        | true ↦ (after_renewed (taken x g.rows) g.rows all.0, all.1)
        | false ↦ (all.0, change_renewed universe gs all.1)
      ]

module _ (now m : ℕ) (c : Core) (none : core_lost m c ≡ 0) where
  abbrev t : ℕ
  t = max c.moment now

  kept_on : AllRenewed (max t m) (rows_kept_all t c.tables)
  kept_on = all_kept_renewed t (max c.moment m) (max t m) (omega arith) c.tables (renewed_all (max c.moment m) c.tables none)

  ticked_loses_none : core_lost m (core_at now c) ≡ 0
  ticked_loses_none = none_lost (max t m) (rows_kept_all t c.tables) kept_on

  -- a packet at a moment loses nothing before its own source would be lost
  reading_loses_none : (reading : Reading) → m < now + 2500 → core_lost m (after_reading reading now c) ≡ 0
  reading_loses_none (Ok (DataPacket d)) soon =
      none_lost (max t m) _ (change_renewed t (max t m) (packet_of d) (lt-ltb (max t m - t) 2500 (omega (arith, soon))) d.universe (rows_kept_all t c.tables) kept_on)
  reading_loses_none (Ok (PagePacket p)) soon = none_lost (max t m) (rows_kept_all t c.tables) kept_on
  reading_loses_none (Ok SyncPacket) soon = none_lost (max t m) (rows_kept_all t c.tables) kept_on
  reading_loses_none (Err fault) soon = none_lost (max t m) (rows_kept_all t c.tables) kept_on

-- ---- a node that loses nothing before its wake

-- once its clock was moved
pub awake_at : (wake now : ℕ) (old new : Core) → new ≡ core_at now old → ((m : ℕ) → m < wake → core_lost m old ≡ 0) → (m : ℕ) → m < wake → core_lost m new ≡ 0
awake_at wake now old new is before m below = subst (λ (c : Core). core_lost m c ≡ 0) (sym is) (ticked_loses_none now m old (before m below))

-- once it was given a datagram
pub awake_after : (wake later now : ℕ) (reading : Reading) (old new : Core) → later ≤ wake → later ≤ now + 2500 → new ≡ after_reading reading now old
    → ((m : ℕ) → m < wake → core_lost m old ≡ 0) → (m : ℕ) → m < later → core_lost m new ≡ 0
awake_after wake later now reading old new first soon is before m below =
    subst (λ (c : Core). core_lost m c ≡ 0) (sym is) (reading_loses_none now m old (before m (omega (arith, first, below))) reading (omega (arith, soon, below)))
