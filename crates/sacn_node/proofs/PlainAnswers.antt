-- What a node answers and holds after a history is what the plain rule does, from the laws of the table of one universe.
use Rattle.std.proofs.Common.{◌≡◌, ℕ, suc, ◌+◌, ◌<◌, ◌≤◌, inl, inr, ◌==◌, max, Bool, true, false, cond, ◌||◌, List, [], ◌∷◌, map, get_or, Some, None, Ok, Err, refl, sym, ap, ◌∙◌, arith, eq-eqb}
use Rattle.std.specs.List.{sum_by, AllByRecursion}
use Rattle.std.specs.Option.{option_map}
use Rattle.std.specs.FinMap.{get, empty}
use Rattle.std.proofs.lemmas.Bool.{cases_lt}
use Rattle.std.proofs.lemmas.List.Elements.{All-cons}
use Rattle.std.proofs.lemmas.List.Sums.{sum_by-cons}
use Rattle.sacn_packets.specs.PacketReading.{reading_packet}
use Rattle.sacn_packets.specs.declared.framing.packet.Packet.TheVariants.{DataPacket, PagePacket, SyncPacket}
use Rattle.sacn_sources.specs.declared.answer.Taken.{Taken}
use Rattle.sacn_sources.specs.declared.answer.Taken.TheVariants.{Held}
use Rattle.sacn_sources.specs.Rows.{Row, Packet, rows_kept, rows_lost, taken, slots_of}
use Rattle.sacn_sources.specs.Packets.{packet_of}
use Rattle.sacn_sources.specs.PlainRule.{Sources, unexpired, source_row, shown_by}
use Rattle.sacn_sources.specs.Calls as one
use Rattle.sacn_sources.specs.PlainRule as plain
use Rattle.sacn_sources.specs.Laws as law
use Rattle.sacn_node.specs.declared.answer.NodeTaken.TheVariants.{FromTable, OtherUniverse}
use Rattle.sacn_node.specs.Setup.{Port, universes}
use Rattle.sacn_node.specs.Ports.{port_of, frame_on}
use Rattle.sacn_node.specs.Cores.{Table, Core, rows_kept_all, rows_lost_all, table_of, core_reply_on, core_at, core_row, core_slots, row_on, slots_on}
use Rattle.sacn_node.specs.Readings.{Reading, reply_to}
use Rattle.sacn_node.specs.Calls.{Call, Take, Tick, Frame, Replied, Lost, Shown, moment_of, answer_to, after_calls, moment_in_use, IsGreatestMoment}
use Rattle.sacn_node.specs.PlainRule.{held_after, holding, reply_at, expired_at, merged_at, answer_at}
use Rattle.sacn_node.specs.Laws.{AnswersByThePlainRule, HoldsByThePlainRule, KeepsItsPorts, UsesTheGreatestMoment}
use Rattle.sacn_node.proofs.Histories.{calls_on, moment_on, held_on, rows_on, table_moment, table_on, kept_step, same_moment, same_tables, same_ports, has, made_at, table_there}

-- ---- what an answer of one table has

abbrev took : one.Answer → Taken
took (one.Took a) = a
took (one.Expired n) = Held
took (one.Slots s) = Held

abbrev counted : one.Answer → ℕ
counted (one.Took a) = 0
counted (one.Expired n) = n
counted (one.Slots s) = 0

abbrev lit : one.Answer → List ℕ
lit (one.Took a) = []
lit (one.Expired n) = []
lit (one.Slots s) = s

-- ---- the numbers of a rising list are among them

or_true : (a : Bool) → (a || true) ≡ true
or_true true = refl
or_true false = refl

weaker : (u : ℕ) (us vs : List ℕ) → AllByRecursion (λ v. has us v ≡ true) vs → AllByRecursion (λ v. has (u ∷ us) v ≡ true) vs
weaker u us [] all = tt
weaker u us (v ∷ vs) all = (ap (λ b. (u == v) || b) all.0 ∙ or_true (u == v), weaker u us vs all.1)

each_has : (us : List ℕ) → AllByRecursion (λ v. has us v ≡ true) us
each_has [] = tt
each_has (u ∷ us) = (ap (λ b. b || has us u) (eq-eqb u u refl), weaker u us us (each_has us))

module _ (answers : law.AnswersByThePlainRule) (earlier : List Call) (now : ℕ) where
  abbrev t : ℕ
  t = max (moment_in_use earlier) now

  abbrev history : ℕ → List one.Call
  history u = calls_on u earlier

  taken_on : (u : ℕ) (x : Packet) → taken x (rows_kept t (rows_on u earlier)) ≡ (source_row t x (unexpired t (held_after u earlier))).answer
  taken_on u x =
      sym (ap (λ m. taken x (rows_kept (max m now) (rows_on u earlier))) (table_moment u earlier))
      ∙ ap took (answers (one.Take now x) (history u))
      ∙ ap (λ m. (source_row (max m now) x (unexpired (max m now) (plain.held_after (history u)))).answer) (moment_on u earlier)
      ∙ ap (λ h. (source_row t x (unexpired t h)).answer) (held_on u earlier)

  lost_on : (u : ℕ) → rows_lost t (rows_on u earlier) ≡ expired_at t (held_after u earlier)
  lost_on u =
      sym (ap (λ m. rows_lost (max m now) (rows_on u earlier)) (table_moment u earlier))
      ∙ ap counted (answers (one.Expire now) (history u))
      ∙ ap (λ m. expired_at (max m now) (plain.held_after (history u))) (moment_on u earlier)
      ∙ ap (expired_at t) (held_on u earlier)

  shown_on : (u : ℕ) → slots_of (rows_kept t (rows_on u earlier)) ≡ merged_at t (held_after u earlier)
  shown_on u =
      sym (ap (λ m. slots_of (rows_kept (max m now) (rows_on u earlier))) (table_moment u earlier))
      ∙ ap lit (answers (one.Merge now) (history u))
      ∙ ap (λ m. merged_at (max m now) (plain.held_after (history u))) (moment_on u earlier)
      ∙ ap (merged_at t) (held_on u earlier)

  from_zero : (m : ℕ) → max 0 m ≡ m
  from_zero m = omega arith

  dark : slots_of [] ≡ merged_at t empty
  dark = ap lit (answers (one.Merge t) []) ∙ ap (λ m. merged_at m empty) (from_zero t)

  module _ (ports : List Port) where
    abbrev us : List ℕ
    us = universes ports

    abbrev n : Core
    n = (after_calls ports earlier).core

    abbrev left : ℕ → List Row
    left u = rows_kept t (rows_on u earlier)

    left_tables : rows_kept_all (max n.moment now) n.tables ≡ map (made_at left) us
    left_tables =
        ap (λ m. rows_kept_all (max m now) n.tables) (same_moment ports earlier)
        ∙ ap (rows_kept_all t) (same_tables ports earlier)
        ∙ kept_step t earlier us

    found : (v : ℕ) → table_of v (rows_kept_all (max n.moment now) n.tables) ≡ cond (has us v) (Some (made_at left v)) None
    found v = ap (table_of v) left_tables ∙ table_there left v us

    data_reply : (v : ℕ) (x : Packet) (b : Bool) → core_reply_on x (cond b (Some (made_at left v)) None) ≡ cond b (FromTable (source_row t x (unexpired t (cond b (held_after v earlier) empty))).answer) OtherUniverse
    data_reply v x true = ap FromTable (taken_on v x)
    data_reply v x false = refl

    replied : (reading : Reading) → reply_to reading now n ≡ reply_at ports t reading (holding ports earlier)
    replied (Ok (DataPacket d)) = ap (core_reply_on (packet_of d)) (found d.universe) ∙ data_reply d.universe (packet_of d) (has us d.universe)
    replied (Ok (PagePacket p)) = refl
    replied (Ok SyncPacket) = refl
    replied (Err fault) = refl

    lost_by : (v : ℕ) (b : Bool) → b ≡ true → rows_lost t (rows_on v earlier) ≡ expired_at t (cond b (held_after v earlier) empty)
    lost_by v true is = lost_on v
    lost_by v false is = absurd (cc)

    lost_sum : (vs : List ℕ) → AllByRecursion (λ v. has us v ≡ true) vs → rows_lost_all t (map (table_on earlier) vs) ≡ sum_by (λ u. expired_at t (holding ports earlier u)) vs
    lost_sum [] all = refl
    lost_sum (v ∷ vs) all =
        sum_by-cons (λ (g : Table). rows_lost t g.rows) (table_on earlier v) (map (table_on earlier) vs)
        ∙ ap (λ k. k + rows_lost_all t (map (table_on earlier) vs)) (lost_by v (has us v) all.0)
        ∙ ap (λ k. expired_at t (holding ports earlier v) + k) (lost_sum vs all.1)
        ∙ sym (sum_by-cons (λ u. expired_at t (holding ports earlier u)) v vs)

    lost_all : rows_lost_all (max n.moment now) n.tables ≡ sum_by (λ u. expired_at t (holding ports earlier u)) us
    lost_all =
        ap (λ m. rows_lost_all (max m now) n.tables) (same_moment ports earlier)
        ∙ ap (rows_lost_all t) (same_tables ports earlier)
        ∙ lost_sum us (each_has us)

    lit_by : (v : ℕ) (b : Bool) → slots_on (cond b (Some (made_at left v)) None) ≡ merged_at t (cond b (held_after v earlier) empty)
    lit_by v true = shown_on v
    lit_by v false = dark

    lit_at : (v : ℕ) → core_slots (core_at now n) v ≡ merged_at t (holding ports earlier v)
    lit_at v = ap slots_on (found v) ∙ lit_by v (has us v)

    lit_all : core_slots (core_at now n) ≡ (λ u. merged_at t (holding ports earlier u))
    lit_all i v = lit_at v i

    shown : (port : ℕ) → frame_on (core_slots (core_at now n)) (port_of port (after_calls ports earlier).ports) ≡ frame_on (λ u. merged_at t (holding ports earlier u)) (port_of port ports)
    shown port =
        ap (λ ps. frame_on (core_slots (core_at now n)) (port_of port ps)) (same_ports ports earlier)
        ∙ ap (λ slots. frame_on slots (port_of port ports)) lit_all

    pub each_answer : (call : Call) → moment_of call ≡ now → answer_to call (after_calls ports earlier) ≡ answer_at ports t call (holding ports earlier)
    each_answer (Take m octets) is = ap (λ k. Replied (reply_to (reading_packet octets) k n)) is ∙ ap Replied (replied (reading_packet octets))
    each_answer (Tick m) is = ap (λ k. Lost (rows_lost_all (max n.moment k) n.tables)) is ∙ ap Lost lost_all
    each_answer (Frame m port) is = ap (λ k. Shown (frame_on (core_slots (core_at k n)) (port_of port (after_calls ports earlier).ports))) is ∙ ap Shown (shown port)

pub answers_by_the_plain_rule : law.AnswersByThePlainRule → AnswersByThePlainRule
answers_by_the_plain_rule answers ports call earlier = each_answer answers earlier (moment_of call) ports call refl

-- ---- what is held

module _ (holds : law.HoldsByThePlainRule) (calls : List Call) (u : ℕ) (cid : List ℕ) where
  held_by : (b : Bool) → row_on cid (cond b (Some (table_on calls u)) None) ≡ option_map (law.row_with cid) (get (cond b (held_after u calls) empty) cid)
  held_by true = holds (calls_on u calls) cid ∙ ap (λ h. option_map (law.row_with cid) (get h cid)) (held_on u calls)
  held_by false = holds [] cid

  pub held_in : (ports : List Port) → core_row u cid (after_calls ports calls).core ≡ option_map (law.row_with cid) (get (holding ports calls u) cid)
  held_in ports =
      ap (λ gs. row_on cid (table_of u gs)) (same_tables ports calls)
      ∙ ap (row_on cid) (table_there (λ u. rows_on u calls) u (universes ports))
      ∙ held_by (has (universes ports) u)

pub holds_by_the_plain_rule : law.HoldsByThePlainRule → HoldsByThePlainRule
holds_by_the_plain_rule holds ports calls u cid = held_in holds calls u cid ports

pub keeps_its_ports : KeepsItsPorts
keeps_its_ports ports calls = same_ports ports calls

-- ---- the moment in use

is_greatest : (calls : List Call) → IsGreatestMoment calls (moment_in_use calls)
is_greatest [] = record { greatest = λ k d lt. absurd (omega arith); handed_in = inl refl }
is_greatest (call ∷ earlier) =
    let rest = is_greatest earlier in
    let now : ℕ = moment_of call in
    let m : ℕ = moment_in_use earlier in
    record {
      greatest = All-cons (λ c. moment_of c ≤ max m now) call earlier (omega arith) (λ k d lt. at_most m now (moment_of (get_or earlier k d)) (rest.greatest k d lt));
      handed_in = elim (cases_lt m now) [
        | inl below ↦ inr (0, call, omega arith, refl, latest m now below)
        | inr not_below ↦ elim rest.handed_in [
          | inl none ↦ inl (omega arith)
          | inr any ↦ inr (suc any.0, any.1, omega (arith, any.2), any.3, any.4 ∙ earlier_is m now not_below)
        ]
      ];
    }
  where
    at_most : (m now k : ℕ) → k ≤ m → k ≤ max m now
    at_most m now k le = omega arith

    latest : (m now : ℕ) → m < now → now ≡ max m now
    latest m now lt = omega arith

    earlier_is : (m now : ℕ) → now ≤ m → m ≡ max m now
    earlier_is m now le = omega arith

pub uses_the_greatest_moment : UsesTheGreatestMoment
uses_the_greatest_moment ports calls = (same_moment ports calls, is_greatest calls)
