-- The steps of a node, over every history, beside the plain rule: on each universe they are the steps of one table, on the
-- calls that reach it.
use Rattle.std.proofs.Common.{◌≡◌, ℕ, ◌<◌, ◌==◌, max, Bool, true, false, cond, ◌||◌, List, [], ◌∷◌, map, Option, Some, None, Ok, Err, refl, sym, ap, subst, ◌∙◌, arith, eqb-true}
use Rattle.std.specs.List.{list_any, AllByRecursion}
use Rattle.std.proofs.lemmas.Bool.Decides.{nat_tests}
use Rattle.sacn_packets.specs.PacketReading.{reading_packet}
use Rattle.sacn_packets.specs.declared.framing.packet.Packet.TheVariants.{DataPacket, PagePacket, SyncPacket}
use Rattle.sacn_sources.specs.Rows.{Row, Packet, rows_kept, take_row}
use Rattle.sacn_sources.specs.Packets.{packet_of}
use Rattle.sacn_sources.specs.PlainRule.{Sources, unexpired}
use Rattle.sacn_sources.specs.Calls as one
use Rattle.sacn_sources.specs.PlainRule as plain
use Rattle.sacn_node.specs.Setup.{Port, universes}
use Rattle.sacn_packets.specs.Universe.{Rising}
use Rattle.sacn_node.specs.Cores.{Table, Core, new_table, rows_kept_all, table_of, change_rows, core_at}
use Rattle.sacn_node.specs.Readings.{Reading, after_reading}
use Rattle.sacn_node.specs.Calls.{Call, Take, Tick, Frame, moment_of, core_step, after_calls, moment_in_use}
use Rattle.sacn_node.specs.PlainRule.{packet_on, brought, change, held_after}
use Rattle.sacn_node.proofs.Guarantees.{universes_rise}

-- ---- the calls on the table of one universe

abbrev pub as_call : ℕ → Option Packet → one.Call
as_call now None = one.Expire now
as_call now (Some x) = one.Take now x

abbrev pub calls_on : ℕ → List Call → List one.Call
calls_on u [] = []
calls_on u (call ∷ earlier) = as_call (moment_of call) (brought u call) ∷ calls_on u earlier

moment_as : (now : ℕ) (o : Option Packet) → one.moment_of (as_call now o) ≡ now
moment_as now None = refl
moment_as now (Some x) = refl

pub moment_on : (u : ℕ) (calls : List Call) → one.moment_in_use (calls_on u calls) ≡ moment_in_use calls
moment_on u [] = refl
moment_on u (call ∷ earlier) =
    ap (λ m. max m (one.moment_of (as_call (moment_of call) (brought u call)))) (moment_on u earlier)
    ∙ ap (λ m. max (moment_in_use earlier) m) (moment_as (moment_of call) (brought u call))

change_as : (now t : ℕ) (o : Option Packet) (held : Sources) → plain.change t (as_call now o) held ≡ change t o held
change_as now t None held = refl
change_as now t (Some x) held = refl

pub held_on : (u : ℕ) (calls : List Call) → plain.held_after (calls_on u calls) ≡ held_after u calls
held_on u [] = refl
held_on u (call ∷ earlier) =
    let now = moment_of call in
    let o = brought u call in
    ap (λ t. plain.change t (as_call now o) (unexpired t (plain.held_after (calls_on u earlier)))) (moment_on u (call ∷ earlier))
    ∙ change_as now (moment_in_use (call ∷ earlier)) o (unexpired (moment_in_use (call ∷ earlier)) (plain.held_after (calls_on u earlier)))
    ∙ ap (λ h. change (moment_in_use (call ∷ earlier)) o (unexpired (moment_in_use (call ∷ earlier)) h)) (held_on u earlier)

-- ---- the rows of a universe

abbrev pub rows_on : ℕ → List Call → List Row
rows_on u calls = (one.after_calls (calls_on u calls)).table.rows

moment_step : (call : one.Call) (earlier : List one.Call) → (one.after_calls (call ∷ earlier)).table.moment ≡ max (one.after_calls earlier).table.moment (one.moment_of call)
moment_step (one.Take now x) earlier = refl
moment_step (one.Expire now) earlier = refl
moment_step (one.Merge now) earlier = refl

pub table_moment : (u : ℕ) (calls : List Call) → (one.after_calls (calls_on u calls)).table.moment ≡ moment_in_use calls
table_moment u [] = refl
table_moment u (call ∷ earlier) =
    moment_step (as_call (moment_of call) (brought u call)) (calls_on u earlier)
    ∙ ap (λ m. max m (one.moment_of (as_call (moment_of call) (brought u call)))) (table_moment u earlier)
    ∙ ap (λ m. max (moment_in_use earlier) m) (moment_as (moment_of call) (brought u call))

-- the rows after a call that brings o to the universe
abbrev pub rows_by : ℕ → Option Packet → List Row → List Row
rows_by t None rs = rows_kept t rs
rows_by t (Some x) rs = take_row x t (rows_kept t rs)

step_as : (now : ℕ) (o : Option Packet) (earlier : List one.Call) → (one.after_calls (as_call now o ∷ earlier)).table.rows ≡ rows_by (max (one.after_calls earlier).table.moment now) o (one.after_calls earlier).table.rows
step_as now None earlier = refl
step_as now (Some x) earlier = refl

pub rows_step : (u : ℕ) (call : Call) (earlier : List Call) → rows_on u (call ∷ earlier) ≡ rows_by (moment_in_use (call ∷ earlier)) (brought u call) (rows_on u earlier)
rows_step u call earlier =
    step_as (moment_of call) (brought u call) (calls_on u earlier)
    ∙ ap (λ m. rows_by (max m (moment_of call)) (brought u call) (rows_on u earlier)) (table_moment u earlier)

-- ---- the tables

abbrev pub table_on : List Call → ℕ → Table
table_on calls u = record { universe = u; rows = rows_on u calls }

-- a table whose universe brings o
abbrev pub table_by : ℕ → (ℕ → Option Packet) → List Call → ℕ → Table
table_by t o earlier u = record { universe = u; rows = rows_by t (o u) (rows_on u earlier) }

tables_step : (call : Call) (earlier : List Call) (us : List ℕ) → map (table_on (call ∷ earlier)) us ≡ map (table_by (moment_in_use (call ∷ earlier)) (λ u. brought u call) earlier) us
tables_step call earlier [] = refl
tables_step call earlier (u ∷ us) =
    ap (λ rs. let g : Table = record { universe = u; rows = rs } in g ∷ map (table_on (call ∷ earlier)) us) (rows_step u call earlier)
    ∙ ap (λ gs. table_by (moment_in_use (call ∷ earlier)) (λ u. brought u call) earlier u ∷ gs) (tables_step call earlier us)

abbrev pub none : ℕ → Option Packet
none u = None

pub kept_step : (t : ℕ) (earlier : List Call) (us : List ℕ) → rows_kept_all t (map (table_on earlier) us) ≡ map (table_by t none earlier) us
kept_step t earlier [] = refl
kept_step t earlier (u ∷ us) = ap (λ gs. table_by t none earlier u ∷ gs) (kept_step t earlier us)

module _ (t v : ℕ) (x : Packet) (earlier : List Call) where
  abbrev for_v : ℕ → Option Packet
  for_v u = cond (v == u) (Some x) None

  abbrev changed : ℕ → List Table → Bool → List Table
  changed u gs b = cond b (record { universe = u; rows = take_row x t (rows_kept t (rows_on u earlier)) } ∷ gs) (table_by t none earlier u ∷ change_rows v (take_row x t) gs)

  abbrev by_test : ℕ → Bool → Table
  by_test u b = record { universe = u; rows = rows_by t (cond b (Some x) None) (rows_on u earlier) }

  turned : (a b : ℕ) → (a == b) ≡ (b == a)
  turned a b = grind (arith, nat_tests)

  not_above : (u : ℕ) → v < u → (v == u) ≡ false
  not_above u lt = grind (arith, nat_tests)

  others : (us : List ℕ) → AllByRecursion (λ u. v < u) us → map (table_by t none earlier) us ≡ map (table_by t for_v earlier) us
  others [] above = refl
  others (u ∷ us) above =
      ap (λ gs. table_by t none earlier u ∷ gs) (others us above.1)
      ∙ ap (λ b. by_test u b ∷ map (table_by t for_v earlier) us) (sym (not_above u above.0))

  pub taken_step : (us : List ℕ) → Rising us → change_rows v (take_row x t) (map (table_by t none earlier) us) ≡ map (table_by t for_v earlier) us
  taken_step [] rise = refl
  taken_step (u ∷ us) rise =
      let rest = map (table_by t none earlier) us in
      elim (u == v) as (λ b. (u == v) ≡ b → changed u rest b ≡ by_test u (v == u) ∷ map (table_by t for_v earlier) us) [
        | true ↦ λ is.
            ap (λ gs. by_test u true ∷ gs) (others us (subst (λ k. AllByRecursion (λ w. k < w) us) (eqb-true u v is) rise.0))
            ∙ ap (λ b. by_test u b ∷ map (table_by t for_v earlier) us) (sym (turned v u ∙ is))
        | false ↦ λ is.
            ap (λ gs. by_test u false ∷ gs) (taken_step us rise.1)
            ∙ ap (λ b. by_test u b ∷ map (table_by t for_v earlier) us) (sym (turned v u ∙ is))
      ] refl

-- what a reading makes of the tables
module _ (now t : ℕ) (earlier : List Call) (us : List ℕ) (rise : Rising us) where
  abbrev before : Core → Type 0
  before n = (max n.moment now ≡ t) × (n.tables ≡ map (table_on earlier) us)

  expired : (n : Core) → before n → (core_at now n).tables ≡ map (table_by t none earlier) us
  expired n b = ap (λ m. rows_kept_all m n.tables) b.0 ∙ ap (rows_kept_all t) b.1 ∙ kept_step t earlier us

  read : (reading : Reading) (n : Core) → before n → (after_reading reading now n).tables ≡ map (table_by t (λ u. packet_on u reading) earlier) us
  read (Ok (DataPacket d)) n b =
      ap (λ m. change_rows d.universe (take_row (packet_of d) m) (rows_kept_all m n.tables)) b.0
      ∙ ap (λ gs. change_rows d.universe (take_row (packet_of d) t) (rows_kept_all t gs)) b.1
      ∙ ap (change_rows d.universe (take_row (packet_of d) t)) (kept_step t earlier us)
      ∙ taken_step t d.universe (packet_of d) earlier us rise
  read (Ok (PagePacket p)) n b = expired n b
  read (Ok SyncPacket) n b = expired n b
  read (Err fault) n b = expired n b

  pub stepped : (call : Call) (n : Core) → moment_of call ≡ now → before n → (core_step call n).tables ≡ map (table_by t (λ u. brought u call) earlier) us
  stepped (Take m octets) n is b = ap (λ k. (after_reading (reading_packet octets) k n).tables) is ∙ read (reading_packet octets) n b
  stepped (Tick m) n is b = ap (λ k. (core_at k n).tables) is ∙ expired n b
  stepped (Frame m port) n is b = ap (λ k. (core_at k n).tables) is ∙ expired n b

moment_read : (reading : Reading) (now : ℕ) (n : Core) → (after_reading reading now n).moment ≡ max n.moment now
moment_read (Ok (DataPacket d)) now n = refl
moment_read (Ok (PagePacket p)) now n = refl
moment_read (Ok SyncPacket) now n = refl
moment_read (Err fault) now n = refl

moment_after : (call : Call) (n : Core) → (core_step call n).moment ≡ max n.moment (moment_of call)
moment_after (Take now octets) n = moment_read (reading_packet octets) now n
moment_after (Tick now) n = refl
moment_after (Frame now port) n = refl

new_tables : (us : List ℕ) → map new_table us ≡ map (table_on []) us
new_tables [] = refl
new_tables (u ∷ us) = ap (λ gs. new_table u ∷ gs) (new_tables us)

module _ (ports : List Port) where
  pub same_moment : (calls : List Call) → (after_calls ports calls).core.moment ≡ moment_in_use calls
  same_moment [] = refl
  same_moment (call ∷ earlier) = moment_after call (after_calls ports earlier).core ∙ ap (λ m. max m (moment_of call)) (same_moment earlier)

  pub same_tables : (calls : List Call) → (after_calls ports calls).core.tables ≡ map (table_on calls) (universes ports)
  same_tables [] = new_tables (universes ports)
  same_tables (call ∷ earlier) =
      stepped (moment_of call) (moment_in_use (call ∷ earlier)) earlier (universes ports) (universes_rise ports) call (after_calls ports earlier).core refl
      (ap (λ m. max m (moment_of call)) (same_moment earlier), same_tables earlier)
      ∙ sym (tables_step call earlier (universes ports))

  pub same_ports : (calls : List Call) → (after_calls ports calls).ports ≡ ports
  same_ports [] = refl
  same_ports (call ∷ earlier) = same_ports earlier

-- the table of a universe, among those of a rising list
abbrev pub has : List ℕ → ℕ → Bool
has us v = list_any (λ u. u == v) us

abbrev pub made_at : (ℕ → List Row) → ℕ → Table
made_at f u = record { universe = u; rows = f u }

pub table_there : (f : ℕ → List Row) (v : ℕ) (us : List ℕ) → table_of v (map (made_at f) us) ≡ cond (has us v) (Some (made_at f v)) None
table_there f v [] = refl
table_there f v (u ∷ us) =
    elim (u == v) as (λ b. (u == v) ≡ b → cond b (Some (made_at f u)) (table_of v (map (made_at f) us)) ≡ cond (b || has us v) (Some (made_at f v)) None) [
      | true ↦ λ is. ap (λ k. Some (made_at f k)) (eqb-true u v is)
      | false ↦ λ is. table_there f v us
    ] refl
