-- After a call at a moment, nothing more is lost at it.
use Rattle.std.proofs.Common.{filter, Bool, sym, suc, length, ◌+◌, ◌≤◌, ◌==◌, ◌≡◌, ℕ, max, true, false, cond, List, [], ◌∷◌, refl, ap, ◌∙◌, arith, nat_eq, Some, Ok, Err}
use Rattle.std.specs.declared.cmp.Ordering.TheVariants.{Less, Equal, Greater}
use Rattle.std.proofs.lemmas.Bool.{lt-ltb, eqb-true}
use Rattle.std.proofs.lemmas.List.Sums.{sum_by-cons}
use Rattle.std.specs.Prelude.{nat_lt, ◌-◌, ⊤}
use Rattle.sacn_sources.specs.declared.answer.Taken.{Taken}
use Rattle.sacn_sources.specs.declared.answer.Taken.TheVariants.{Held, Observed, EndedNow, OutOfSequence, SourcesExceeded, UnknownIgnored}
use Rattle.sacn_packets.specs.declared.framing.packet.Packet.TheVariants.{DataPacket, PagePacket, SyncPacket}
use Rattle.sacn_sources.specs.Order.{order, same, by_order}
use Rattle.sacn_sources.specs.Packets.{packet_of}
use Rattle.sacn_sources.specs.Rows.{Row, Packet, row_renewed, rows_kept, rows_lost, row_of, put_row, row_live, row_ended, row_observed, rows_after, observed, take_row, taken}
use Rattle.sacn_node.specs.Cores.{Table, Core, rows_lost_all, core_lost, rows_kept_all, change_rows, core_at, core_slots, slots_on, table_of}
use Rattle.sacn_node.specs.Readings.{Reading, after_reading}

abbrev Renewed : ℕ → List Row → Type 0
Renewed t [] = ⊤
Renewed t (r ∷ rs) = (row_renewed t r ≡ true) × Renewed t rs

abbrev AllRenewed : ℕ → List Table → Type 0
AllRenewed t [] = ⊤
AllRenewed t (g ∷ gs) = Renewed t g.rows × AllRenewed t gs

renewed_kept : (t : ℕ) (rs : List Row) → Renewed t rs → rows_kept t rs ≡ rs
renewed_kept t [] all = refl
renewed_kept t (r ∷ rs) all = rw all.0 (ap (λ l. r ∷ l) (renewed_kept t rs all.1))

kept_renewed : (t : ℕ) (rs : List Row) → Renewed t (rows_kept t rs)
kept_renewed t [] = tt
kept_renewed t (r ∷ rs) =
    elim (row_renewed t r) as (λ b. row_renewed t r ≡ b → Renewed t (cond b (r ∷ rows_kept t rs) (rows_kept t rs))) [
      | true ↦ λ is. (is, kept_renewed t rs)
      | false ↦ λ is. kept_renewed t rs
    ] refl

put_renewed : (t : ℕ) (n : Row) (rs : List Row) → row_renewed t n ≡ true → Renewed t rs → Renewed t (put_row n rs)
put_renewed t n [] new all = (new, tt)
put_renewed t n (r ∷ rs) new all =
    elim (order n.source r.source) as (λ o. Renewed t (by_order o (n ∷ r ∷ rs) (n ∷ rs) (r ∷ put_row n rs))) [
      | Less ↦ (new, all)
      | Equal ↦ (new, all.1)
      | Greater ↦ (all.0, put_renewed t n rs new all.1)
    ]

now_renewed : (t : ℕ) → nat_lt (t - t) 2500 ≡ true
now_renewed t = lt-ltb (t - t) 2500 (omega arith)

observed_renewed : (t : ℕ) (x : Packet) (s : List ℕ) (all rs : List Row) → Renewed t all → Renewed t rs → Renewed t (observed x (row_of s rs) all)
observed_renewed t x s all [] kept rest = kept
observed_renewed t x s all (r ∷ rs) kept rest =
    elim (same s r.source) as (λ b. Renewed t (observed x (cond b (Some r) (row_of s rs)) all)) [
      | true ↦ put_renewed t (row_observed x r) all rest.0 kept
      | false ↦ observed_renewed t x s all rs kept rest.1
    ]

after_renewed : (answer : Taken) (t : ℕ) (x : Packet) (rs : List Row) → Renewed t rs → Renewed t (rows_after answer x t rs)
after_renewed Held t x rs all = put_renewed t (row_live x t) rs (now_renewed t) all
after_renewed EndedNow t x rs all = put_renewed t (row_ended x t) rs (now_renewed t) all
after_renewed Observed t x rs all = observed_renewed t x x.source rs rs all all
after_renewed OutOfSequence t x rs all = all
after_renewed SourcesExceeded t x rs all = all
after_renewed UnknownIgnored t x rs all = all

all_kept : (t : ℕ) (gs : List Table) → AllRenewed t (rows_kept_all t gs)
all_kept t [] = tt
all_kept t (g ∷ gs) = (kept_renewed t g.rows, all_kept t gs)

kept_all : (t : ℕ) (gs : List Table) → AllRenewed t gs → rows_kept_all t gs ≡ gs
kept_all t [] all = refl
kept_all t (g ∷ gs) all =
    ap (λ rs. let kept : Table = record { universe = g.universe; rows = rs } in kept ∷ rows_kept_all t gs) (renewed_kept t g.rows all.0)
    ∙ ap (λ l. g ∷ l) (kept_all t gs all.1)

change_renewed : (t u : ℕ) (x : Packet) (gs : List Table) → AllRenewed t gs → AllRenewed t (change_rows u (take_row x t) gs)
change_renewed t u x [] all = all
change_renewed t u x (g ∷ gs) all =
    elim (nat_eq g.universe u) as (λ b. AllRenewed t (cond b (record { universe = g.universe; rows = take_row x t g.rows } ∷ gs) (g ∷ change_rows u (take_row x t) gs))) [
      | true ↦ (after_renewed (taken x g.rows) t x g.rows all.0, all.1)
      | false ↦ (all.0, change_renewed t u x gs all.1)
    ]

max_twice : (m now : ℕ) → max (max m now) now ≡ max m now
max_twice m now = omega arith

-- a core all of whose rows are renewed at its moment stays so
settled : (m now : ℕ) (gs : List Table) → AllRenewed (max m now) gs → core_at now (record { moment = max m now; tables = gs }) ≡ record { moment = max m now; tables = gs }
settled m now gs all =
    ap (λ k. let c : Core = record { moment = k; tables = rows_kept_all k gs } in c) (max_twice m now)
    ∙ ap (λ l. let c : Core = record { moment = max m now; tables = l } in c) (kept_all (max m now) gs all)

pub expired : (c : Core) (now : ℕ) → core_at now (core_at now c) ≡ core_at now c
expired c now = settled c.moment now (rows_kept_all (max c.moment now) c.tables) (all_kept (max c.moment now) c.tables)

pub reading_settled : (reading : Reading) (c : Core) (now : ℕ) → core_at now (after_reading reading now c) ≡ after_reading reading now c
reading_settled (Ok (DataPacket d)) c now =
    settled c.moment now _ (change_renewed (max c.moment now) d.universe (packet_of d) (rows_kept_all (max c.moment now) c.tables) (all_kept (max c.moment now) c.tables))
reading_settled (Ok (PagePacket p)) c now = expired c now
reading_settled (Ok SyncPacket) c now = expired c now
reading_settled (Err fault) c now = expired c now

-- ---- where nothing is lost, nothing changes

kept_few : {X : Type 0} (p : X → Bool) (xs : List X) → length (filter p xs) ≤ length xs
kept_few p [] = omega arith
kept_few p (x ∷ xs) =
    elim (p x) as (λ b. length (cond b (x ∷ filter p xs) (filter p xs)) ≤ suc (length xs)) [
      | true ↦ let rest = kept_few p xs in omega (arith, rest)
      | false ↦ let rest = kept_few p xs in omega (arith, rest)
    ]

all_kept_same : {X : Type 0} (p : X → Bool) (xs : List X) → length xs ≤ length (filter p xs) → filter p xs ≡ xs
all_kept_same p [] many = refl
all_kept_same p (x ∷ xs) many =
    elim (p x) as (λ b. suc (length xs) ≤ length (cond b (x ∷ filter p xs) (filter p xs)) → cond b (x ∷ filter p xs) (filter p xs) ≡ x ∷ xs) [
      | true ↦ λ long. ap (λ l. x ∷ l) (all_kept_same p xs (omega (arith, long)))
      | false ↦ λ long. absurd (omega (arith, long, kept_few p xs))
    ] many

tables_kept : (t : ℕ) (gs : List Table) → rows_lost_all t gs ≡ 0 → rows_kept_all t gs ≡ gs
tables_kept t [] none = refl
tables_kept t (g ∷ gs) none =
    let sum : rows_lost_all t (g ∷ gs) ≡ rows_lost t g.rows + rows_lost_all t gs = sum_by-cons (λ (g : Table). rows_lost t g.rows) g gs in
    let first : rows_lost t g.rows ≡ 0 = omega (arith, sum, none) in
    let rest : rows_lost_all t gs ≡ 0 = omega (arith, sum, none) in
    ap (λ rs. let kept : Table = record { universe = g.universe; rows = rs } in kept ∷ rows_kept_all t gs) (all_kept_same (row_renewed t) g.rows (omega (arith, first)))
    ∙ ap (λ l. g ∷ l) (tables_kept t gs rest)

pub none_lost : (now lost : ℕ) (c : Core) → lost ≡ core_lost now c → (lost == 0) ≡ true → (core_at now c).tables ≡ c.tables
none_lost now lost c counted none = tables_kept (max c.moment now) c.tables (sym counted ∙ eqb-true lost 0 none)

-- where nothing is lost, expiry changes no slots
pub tick_told : (now lost u : ℕ) (old : Core) → lost ≡ core_lost now old → lost ≡ 0 → core_slots (core_at now old) u ≡ core_slots old u
tick_told now lost u old counted none = ap (λ (gs : List Table). slots_on (table_of u gs)) (none_lost now lost old counted (ap (λ (n : ℕ). n == 0) none))
