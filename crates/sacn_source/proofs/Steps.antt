-- One universe of a source after each deed, as the list of deeds says.
use Rattle.std.proofs.Common.{◌≡◌, ℕ, ◌+◌, ◌-◌, ◌%◌, ◌<◌, min, Bool, true, false, not, ◌||◌, ◌==◌, cond, nat_lt, if◌then◌else◌, List, [], ◌∷◌, length, map, filter, find, Option, Some, None, suc, zero, refl, arith, ap, sym, ◌∙◌}
use Rattle.std.specs.Option.{option_map}
use Rattle.std.specs.List.{AllByRecursion}
use Rattle.std.proofs.lemmas.Bool.Decides.{nat_tests}
use Rattle.sacn_packets.specs.Data.{Data}
use Rattle.sacn_packets.specs.Universe.{Rising}
use Rattle.sacn_console.specs.declared.limits.TheConstants.{CONSOLE_UNIVERSES, TERMINATIONS}
use Rattle.sacn_console.specs.declared.line.Begun.{Begun}
use Rattle.sacn_console.specs.declared.line.State.{State}
use Rattle.sacn_console.specs.declared.line.State.TheVariants.{Running, Ending, Stopped}
use Rattle.sacn_console.specs.Lines.{Page, Datagram, Packet, Paged, same, state_sent, line_sent, is_ending, is_stopped}
use Rattle.sacn_console.specs.Core.{page_by, packet_with}
use Rattle.sacn_console.specs.Due.{Sent, terminations, mode_by, follow_new, latest, is_stop, is_end}
use Rattle.sacn_console.specs.Runs.{state_by}
use Rattle.sacn_console.proofs.Modes.{stop_same, end_same, state_due_same}
use Rattle.sacn_console.proofs.Plain.{same_number}
use Rattle.sacn_source.specs.declared.source_universe.SourceUniverse.{SourceUniverse}
use Rattle.sacn_source.specs.declared.fault.SourceFault.TheVariants as fault
use Rattle.sacn_source.specs.Rows.{row_due, row_sent, row_in, row_ended, row_showing, row_prior, new_row, slots_of, dark, state_anew, state_ended}
use Rattle.sacn_source.specs.Table.{Add, SetLevels, SetPriority, End, EndAll, on, standing, with_universe}
use Rattle.sacn_source.specs.Source.{Source, packet_of, row_found, page_due, due, due_by, sent}
use Rattle.sacn_source.specs.Calls.{Deed, Accepted, Gave, Life, packets, levels_by, priority_by, is_ended, kept_if, packets_since, mode, universe_due, number_by, packet_by, with_number, universes, standing_by, list_by, cycle_by, due_with, due_by_list, known, row_by, source_by}

-- ---- numbers

eqb_self : (a : ℕ) → (a == a) ≡ true
eqb_self a = grind (arith, nat_tests)

eqb_turned : (a b : ℕ) → (a == b) ≡ true → (b == a) ≡ true
eqb_turned a b h = grind (arith, nat_tests)

neqb_above : (a b : ℕ) → a < b → (b == a) ≡ false
neqb_above a b lt = grind (arith, nat_tests)

neqb_below : (a b : ℕ) → b < a → (b == a) ≡ false
neqb_below a b lt = grind (arith, nat_tests)

pub is_lt : (a b : ℕ) → nat_lt a b ≡ true → a < b
is_lt a b h = grind (arith, nat_tests)

pub is_above : (a b : ℕ) → (a == b) ≡ false → nat_lt a b ≡ false → b < a
is_above a b h g = grind (arith, nat_tests)

number_step : (first n : ℕ) → ((first + n) % 256 + 1) % 256 ≡ (first + suc n) % 256
number_step first n = omega arith

whole : (first : ℕ) → first < 256 → first ≡ (first + 0) % 256
whole first lt = omega arith

-- ---- the state of a universe, after a packet

end_step : (n : ℕ) (f : List ℕ) → nat_lt n 3 ≡ true → state_sent f (Ending (TERMINATIONS - n)) ≡ (if nat_lt (n + 1) 3 then Ending (TERMINATIONS - (n + 1)) else Stopped)
unfolding state_sent
end_step zero f h = refl
end_step (suc zero) f h = refl
end_step (suc (suc zero)) f h = refl
end_step (suc (suc (suc n))) f h = absurd (grind arith)

stopped_step : (f : List ℕ) → state_sent f Stopped ≡ Stopped
unfolding state_sent
stopped_step f = refl

ended_step : (n : ℕ) (f : List ℕ) (b c : Bool) → nat_lt n 3 ≡ b → c ≡ is_ending (if b then Ending (TERMINATIONS - n) else Stopped) →
    state_sent f (if b then Ending (TERMINATIONS - n) else Stopped) ≡ (if nat_lt (if c then n + 1 else n) 3 then Ending (TERMINATIONS - (if c then n + 1 else n)) else Stopped)
ended_step n f true c h e = rw e (end_step n f h)
ended_step n f false c h e = rw (e, h) (stopped_step f)

run_begins : (t : ℕ) (d : Data) → state_sent d.slots (Running None) ≡ state_by false (record { moment = t; data_sent = d } ∷ [])
unfolding state_sent
run_begins t d = refl

less_one : (x : ℕ) → (3 - x) - 1 ≡ 3 - (x + 1)
less_one x = omega arith

run_goes_on : (t : ℕ) (d : Data) (a : Sent) (ss : List Sent) → state_sent d.slots (state_by false (a ∷ ss)) ≡ state_by false (record { moment = t; data_sent = d } ∷ a ∷ ss)
unfolding state_sent
run_goes_on t d a ss =
    elim (same a.data_sent.slots d.slots) as (λ b. cond b (Running (Some (record { frame = d.slots; owed = (3 - follow_new (a ∷ ss)) - 1 }))) (Running (Some (record { frame = d.slots; owed = 3 }))) ≡ Running (Some (record { frame = d.slots; owed = 3 - cond b (follow_new (a ∷ ss) + 1) 0 })))
    [ true ↦ ap (λ (n : ℕ). Running (Some (record { frame = d.slots; owed = n }))) (less_one (follow_new (a ∷ ss))) | false ↦ refl ]

state_step : (t : ℕ) (d : Data) (e : Bool) (ss : List Sent) → d.terminated ≡ is_ending (state_by e ss) →
    state_sent d.slots (state_by e ss) ≡ state_by e (record { moment = t; data_sent = d } ∷ ss)
state_step t d true ss h = ended_step (terminations ss) d.slots (nat_lt (terminations ss) TERMINATIONS) d.terminated refl h
state_step t d false [] h = run_begins t d
state_step t d false (a ∷ ss) h = run_goes_on t d a ss

-- ---- what is due

row_due_same : (life : Life) (t : ℕ) (ds : List Deed) (u : ℕ) → row_due t (row_by life ds u) ≡ universe_due life t ds u
unfolding row_due universe_due mode
row_due_same life t ds u = state_due_same (levels_by u ds) t (latest (packets u ds)) (is_ended u ds) (packets_since life u ds)

found_same : (life : Life) (t : ℕ) (ds : List Deed) (us : List ℕ) → find (row_due t) (map (row_by life ds) us) ≡ option_map (row_by life ds) (find (universe_due life t ds) us)
found_same life t ds [] = refl
found_same life t ds (u ∷ us) =
    rw (row_due_same life t ds u)
    (elim (universe_due life t ds u) as (λ b. cond b (Some (row_by life ds u)) (find (row_due t) (map (row_by life ds) us)) ≡ option_map (row_by life ds) (cond b (Some u) (find (universe_due life t ds) us)))
    [ true ↦ refl | false ↦ found_same life t ds us ])

standing_same : (life : Life) (ds : List Deed) (us : List ℕ) → standing (map (row_by life ds) us) ≡ filter (λ u. not (is_stop (mode life u ds))) us
unfolding standing mode
standing_same life ds [] = refl
standing_same life ds (u ∷ us) =
    rw (stop_same (is_ended u ds) (packets_since life u ds))
    (elim (is_stop (mode_by (is_ended u ds) (terminations (packets_since life u ds)))) as (λ b. map (λ (r : SourceUniverse). r.line.universe) (cond (not b) (row_by life ds u ∷ filter (λ r. not (is_stopped r.line.state)) (map (row_by life ds) us)) (filter (λ r. not (is_stopped r.line.state)) (map (row_by life ds) us))) ≡ cond (not b) (u ∷ filter (λ u. not (is_stop (mode_by (is_ended u ds) (terminations (packets_since life u ds))))) us) (filter (λ u. not (is_stop (mode_by (is_ended u ds) (terminations (packets_since life u ds))))) us))
    [ true ↦ standing_same life ds us | false ↦ ap (λ (xs : List ℕ). u ∷ xs) (standing_same life ds us) ])

page_same : (life : Life) (t : ℕ) (ds : List Deed) → page_due (source_by life t ds) ≡ page_by t (standing_by life ds) (list_by life ds) (cycle_by ds)
unfolding page_due source_by standing_by
page_same life t ds = ap (λ (all : List ℕ). page_by t all (list_by life ds) (cycle_by ds)) (standing_same life ds (universes ds))

packet_same : (life : Life) (ds : List Deed) (u : ℕ) → packet_of life.sender (row_by life ds u) ≡ packet_by life ds u
unfolding packet_of packet_with packet_by mode
packet_same life ds u = rw (end_same (is_ended u ds) (packets_since life u ds)) refl

found_packet : (life : Life) (t : ℕ) (ds : List Deed) (u : ℕ) → due_by (source_by life t ds) (Some (row_by life ds u)) ≡ Some (Packet (packet_by life ds u))
unfolding source_by
found_packet life t ds u = ap (λ (d : Data). Some (Packet d)) (packet_same life ds u)

row_found_same : (life : Life) (t : ℕ) (ds : List Deed) → row_found (source_by life t ds) ≡ option_map (row_by life ds) (find (universe_due life t ds) (universes ds))
unfolding row_found source_by
row_found_same life t ds = found_same life t ds (universes ds)

due_found : (life : Life) (t : ℕ) (ds : List Deed) (o : Option ℕ) → due_by (source_by life t ds) (option_map (row_by life ds) o) ≡ due_with life t ds o
due_found life t ds None = ap (option_map Paged) (page_same life t ds)
due_found life t ds (Some u) = found_packet life t ds u

pub due_same : (life : Life) (t : ℕ) (ds : List Deed) → due (source_by life t ds) ≡ due_by_list life t ds
unfolding due due_by_list
due_same life t ds = ap (due_by (source_by life t ds)) (row_found_same life t ds) ∙ due_found life t ds (find (universe_due life t ds) (universes ds))

-- ---- a datagram

-- a packet is that of a universe that was added, with its levels, and ends where that is ending; a first page lists what is not stopped
abbrev pub IsProper : Life → List Deed → Datagram → Type 0
IsProper life ds (Packet d) = (d.terminated ≡ is_end (mode life d.universe ds)) × (d.slots ≡ levels_by d.universe ds) × (known d.universe ds ≡ None → ⊥)
IsProper life ds (Paged p) = (p.page == 0) ≡ true → p.list ≡ standing_by life ds

sent_step : (life : Life) (t : ℕ) (d : Data) (ds : List Deed) (u : ℕ) → d.terminated ≡ is_ending (state_by (is_ended u ds) (packets_since life u ds)) → d.slots ≡ levels_by u ds →
    row_sent t (row_by life ds u) ≡ record {
      line = record { universe = u; state = state_by (is_ended u ds) (record { moment = t; data_sent = d } ∷ packets_since life u ds); sequence_number = (life.first + suc (length (packets u ds))) % 256; last = Some t };
      levels = levels_by u ds;
      priority = priority_by life u ds;
    }
unfolding row_sent line_sent
sent_step life t d ds u h s = rw (← s, state_step t d (is_ended u ds) (packets_since life u ds) h, number_step life.first (length (packets u ds))) refl

packet_step : (life : Life) (t : ℕ) (d : Data) (ds : List Deed) (u : ℕ) (b : Bool) → (b ≡ true → d.terminated ≡ is_ending (state_by (is_ended u ds) (packets_since life u ds))) → (b ≡ true → d.slots ≡ levels_by u ds) →
    (if b then row_sent t (row_by life ds u) else row_by life ds u) ≡ record {
      line = record {
        universe = u;
        state = state_by (is_ended u ds) (if b then record { moment = t; data_sent = d } ∷ packets_since life u ds else packets_since life u ds);
        sequence_number = (life.first + length (if b then record { moment = t; data_sent = d } ∷ packets u ds else packets u ds)) % 256;
        last = latest (if b then record { moment = t; data_sent = d } ∷ packets u ds else packets u ds);
      };
      levels = levels_by u ds;
      priority = priority_by life u ds;
    }
packet_step life t d ds u true h s = sent_step life t d ds u (h refl) (s refl)
packet_step life t d ds u false h s = refl

of_universe : (life : Life) (u : ℕ) (d : Data) (ds : List Deed) → d.terminated ≡ is_end (mode life d.universe ds) → (u == d.universe) ≡ true → d.terminated ≡ is_ending (state_by (is_ended u ds) (packets_since life u ds))
unfolding mode
of_universe life u d ds h e =
    let s : u ≡ d.universe = same_number u d.universe e in
    rw (end_same (is_ended u ds) (packets_since life u ds), s) h

slots_of_universe : (u : ℕ) (d : Data) (ds : List Deed) → d.slots ≡ levels_by d.universe ds → (u == d.universe) ≡ true → d.slots ≡ levels_by u ds
slots_of_universe u d ds h e =
    let s : u ≡ d.universe = same_number u d.universe e in
    h ∙ ap (λ (v : ℕ). levels_by v ds) (sym s)

row_gave : (life : Life) (t : ℕ) (d : Data) (ds : List Deed) (u : ℕ) → IsProper life ds (Packet d) → on d.universe (row_sent t) (row_by life ds u) ≡ row_by life (Gave t (Packet d) ∷ ds) u
row_gave life t d ds u h = packet_step life t d ds u (u == d.universe) (λ e. of_universe life u d ds h.0 e) (λ e. slots_of_universe u d ds h.1 e)

rows_gave : (life : Life) (t : ℕ) (d : Data) (ds : List Deed) (us : List ℕ) → IsProper life ds (Packet d) → map (on d.universe (row_sent t)) (map (row_by life ds) us) ≡ map (row_by life (Gave t (Packet d) ∷ ds)) us
rows_gave life t d ds [] h = refl
rows_gave life t d ds (u ∷ us) h = λ i. row_gave life t d ds u h i ∷ rows_gave life t d ds us h i

rows_paged : (life : Life) (t : ℕ) (p : Page) (ds : List Deed) (us : List ℕ) → map (row_by life ds) us ≡ map (row_by life (Gave t (Paged p) ∷ ds)) us
rows_paged life t p ds [] = refl
rows_paged life t p ds (u ∷ us) = ap (λ (rs : List SourceUniverse). row_by life ds u ∷ rs) (rows_paged life t p ds us)

listed_gave : (life : Life) (p : Page) (ds : List Deed) (b : Bool) → (b ≡ true → p.list ≡ standing_by life ds) → (if b then p.list else list_by life ds) ≡ (if b then standing_by life ds else list_by life ds)
listed_gave life p ds true h = h refl
listed_gave life p ds false h = refl

abbrev pub source_with : Life → ℕ → List SourceUniverse → Option Begun → List ℕ → Source
source_with life t rows cycle listed = record {
  sender = life.sender;
  first = life.first;
  table = record { room = min life.room CONSOLE_UNIVERSES; rows = rows };
  cycle = cycle;
  listed = listed;
  moment = t;
}

pub source_gave : (life : Life) (t : ℕ) (g : Datagram) (ds : List Deed) → IsProper life ds g → sent t g (source_by life t ds) ≡ source_by life t (Gave t g ∷ ds)
unfolding sent source_by
source_gave life t (Packet d) ds h = ap (λ (rows : List SourceUniverse). source_with life t rows (cycle_by ds) (list_by life ds)) (rows_gave life t d ds (universes ds) h)
source_gave life t (Paged p) ds h =
    λ i. source_with life t (rows_paged life t p ds (universes ds) i) (cycle_by (Gave t (Paged p) ∷ ds)) (listed_gave life p ds (p.page == 0) h i)

-- ---- orders

abbrev row_with : ℕ → Bool → List Sent → ℕ → Option ℕ → List ℕ → ℕ → SourceUniverse
row_with u e ss n last f p = record { line = record { universe = u; state = state_by e ss; sequence_number = n; last = last }; levels = f; priority = p }

abbrev row_in_state : ℕ → State → ℕ → Option ℕ → List ℕ → ℕ → SourceUniverse
row_in_state u s n last f p = record { line = record { universe = u; state = s; sequence_number = n; last = last }; levels = f; priority = p }

pub level_row : (life : Life) (v : ℕ) (levels : List ℕ) (ds : List Deed) (u : ℕ) → on v (row_showing (slots_of levels)) (row_by life ds u) ≡ row_by life (Accepted (SetLevels v levels) ∷ ds) u
level_row life v levels ds u =
    elim (u == v) as (λ b. (if b then row_showing (slots_of levels) (row_by life ds u) else row_by life ds u) ≡ row_with u (is_ended u ds) (packets_since life u ds) (number_by life.first u ds) (latest (packets u ds)) (if b then slots_of levels else levels_by u ds) (priority_by life u ds))
    [ true ↦ refl | false ↦ refl ]

anew_same : (e : Bool) (ss : List Sent) → state_anew (state_by e ss) ≡ state_by e (kept_if e ss)
anew_same true ss =
    elim (nat_lt (terminations ss) TERMINATIONS) as (λ b. state_anew (cond b (Ending (TERMINATIONS - terminations ss)) Stopped) ≡ cond b (Ending (TERMINATIONS - terminations ss)) Stopped) [ true ↦ refl | false ↦ refl ]
anew_same false [] = refl
anew_same false (a ∷ ss) = refl

ended_same : (e : Bool) (ss : List Sent) → state_ended (state_by e ss) ≡ state_by true (kept_if e ss)
ended_same true ss =
    elim (nat_lt (terminations ss) TERMINATIONS) as (λ b. state_ended (cond b (Ending (TERMINATIONS - terminations ss)) Stopped) ≡ cond b (Ending (TERMINATIONS - terminations ss)) Stopped) [ true ↦ refl | false ↦ refl ]
ended_same false [] = refl
ended_same false (a ∷ ss) = refl

prior_by : (u p q n : ℕ) (e : Bool) (ss : List Sent) (last : Option ℕ) (f : List ℕ) (b : Bool) → (q == p) ≡ b →
    (if b then row_with u e ss n last f q else row_in_state u (state_anew (state_by e ss)) n last f p) ≡ row_with u e (kept_if (b || e) ss) n last f p
prior_by u p q n e ss last f true is = ap (λ (x : ℕ). row_with u e ss n last f x) (same_number q p is)
prior_by u p q n e ss last f false is = ap (λ (s : State). row_in_state u s n last f p) (anew_same e ss)

prior_there : (u p q n : ℕ) (e : Bool) (ss : List Sent) (last : Option ℕ) (f : List ℕ) → row_prior p (row_with u e ss n last f q) ≡ row_with u e (kept_if (q == p || e) ss) n last f p
unfolding row_prior
prior_there u p q n e ss last f = prior_by u p q n e ss last f (q == p) refl

pub prior_row : (life : Life) (v p : ℕ) (ds : List Deed) (u : ℕ) → on v (row_prior p) (row_by life ds u) ≡ row_by life (Accepted (SetPriority v p) ∷ ds) u
prior_row life v p ds u =
    elim (u == v) as (λ b. (if b then row_prior p (row_by life ds u) else row_by life ds u) ≡ row_with u (is_ended u ds) (if b then kept_if (priority_by life u ds == p || is_ended u ds) (packets_since life u ds) else packets_since life u ds) (number_by life.first u ds) (latest (packets u ds)) (levels_by u ds) (if b then p else priority_by life u ds))
    [ true ↦ prior_there u p (priority_by life u ds) (number_by life.first u ds) (is_ended u ds) (packets_since life u ds) (latest (packets u ds)) (levels_by u ds) | false ↦ refl ]

pub end_row : (life : Life) (v : ℕ) (ds : List Deed) (u : ℕ) → on v (row_in (Ending TERMINATIONS)) (row_by life ds u) ≡ row_by life (Accepted (End v) ∷ ds) u
end_row life v ds u =
    elim (u == v) as (λ b. (if b then row_in (Ending TERMINATIONS) (row_by life ds u) else row_by life ds u) ≡ row_with u (if b then true else is_ended u ds) (if b then [] else packets_since life u ds) (number_by life.first u ds) (latest (packets u ds)) (levels_by u ds) (priority_by life u ds))
    [ true ↦ refl | false ↦ refl ]

pub all_row : (life : Life) (ds : List Deed) (u : ℕ) → row_ended (row_by life ds u) ≡ row_by life (Accepted EndAll ∷ ds) u
all_row life ds u = ap (λ (s : State). row_in_state u s (number_by life.first u ds) (latest (packets u ds)) (levels_by u ds) (priority_by life u ds)) (ended_same (is_ended u ds) (packets_since life u ds))

pub rows_by : (f : SourceUniverse → SourceUniverse) (g h : ℕ → SourceUniverse) → ((u : ℕ) → f (g u) ≡ h u) → (us : List ℕ) → map f (map g us) ≡ map h us
rows_by f g h each [] = refl
rows_by f g h each (u ∷ us) = λ i. each u i ∷ rows_by f g h each us i

-- ---- a new universe

-- nothing was said of it, and nothing was sent on it
abbrev pub IsFresh : Life → ℕ → List Deed → Type 0
IsFresh life u ds = (packets u ds ≡ []) × (levels_by u ds ≡ dark) × (priority_by life u ds ≡ life.sender.priority)

module _ (life : Life) (u : ℕ) (ds : List Deed) (small : life.first < 256) where
  other_by : (v : ℕ) (b : Bool) → b ≡ false → row_by life ds v ≡ row_with v (if b then false else is_ended v ds) (if b then [] else packets_since life v ds) (number_by life.first v ds) (latest (packets v ds)) (levels_by v ds) (priority_by life v ds)
  other_by v true e = absurd (cc)
  other_by v false e = refl

  add_other : (v : ℕ) → (v == u) ≡ false → row_by life ds v ≡ row_by life (Accepted (Add u) ∷ ds) v
  add_other v e = other_by v (v == u) e

  again_by : (v : ℕ) (b : Bool) → b ≡ true → row_in (Running None) (row_by life ds v) ≡ row_with v (if b then false else is_ended v ds) (if b then [] else packets_since life v ds) (number_by life.first v ds) (latest (packets v ds)) (levels_by v ds) (priority_by life v ds)
  again_by v true e = refl
  again_by v false e = absurd (cc)

  add_again : (v : ℕ) → (v == u) ≡ true → row_in (Running None) (row_by life ds v) ≡ row_by life (Accepted (Add u) ∷ ds) v
  add_again v e = again_by v (v == u) e

  new_by : (b : Bool) (ss : List Sent) (f : List ℕ) (p : ℕ) → b ≡ true → ss ≡ [] → f ≡ dark → p ≡ life.sender.priority →
      new_row life.first life.sender.priority u ≡ row_with u (if b then false else is_ended u ds) (if b then [] else packets_since life u ds) ((life.first + length ss) % 256) (latest ss) f p
  new_by true ss f p e se fe pe = rw (se, fe, pe) (ap (λ (n : ℕ). row_in_state u (Running None) n None dark life.sender.priority) (whole life.first small))
  new_by false ss f p e se fe pe = absurd (cc)

  add_new : IsFresh life u ds → new_row life.first life.sender.priority u ≡ row_by life (Accepted (Add u) ∷ ds) u
  add_new fresh = new_by (u == u) (packets u ds) (levels_by u ds) (priority_by life u ds) (eqb_self u) fresh.0 fresh.1 fresh.2

  others : (us : List ℕ) → AllByRecursion (λ y. u < y) us → map (row_by life ds) us ≡ map (row_by life (Accepted (Add u) ∷ ds)) us
  others [] above = refl
  others (v ∷ vs) above = λ i. add_other v (neqb_above u v above.0) i ∷ others vs above.1 i

  above_more : (v : ℕ) (xs : List ℕ) → u < v → AllByRecursion (λ y. v < y) xs → AllByRecursion (λ y. u < y) xs
  above_more v [] lt all = tt
  above_more v (x ∷ xs) lt all = (let h = all.0 in omega (arith, lt, h), above_more v xs lt all.1)

  abbrev New : SourceUniverse
  New = new_row life.first life.sender.priority u

  put_by : (v : ℕ) (vs rest : List ℕ) (rows : List SourceUniverse) (b c : Bool) → (u == v) ≡ b → nat_lt u v ≡ c → Rising (v ∷ vs) → ((v == u) ≡ false → find (λ w. w == u) vs ≡ None → IsFresh life u ds) → ((v == u) ≡ false → rows ≡ map (row_by life (Accepted (Add u) ∷ ds)) rest) → (u < v → find (λ w. w == u) vs ≡ None) →
      (if b then row_in (Running None) (row_by life ds v) ∷ map (row_by life ds) vs else (if c then New ∷ row_by life ds v ∷ map (row_by life ds) vs else row_by life ds v ∷ rows))
      ≡ map (row_by life (Accepted (Add u) ∷ ds)) (if b then v ∷ vs else (if c then u ∷ v ∷ vs else v ∷ rest))
  put_by v vs rest rows true c e f rising fresh more none =
      let above : AllByRecursion (λ y. u < y) vs = rw (same_number u v e) rising.0 in
      λ i. add_again v (eqb_turned u v e) i ∷ others vs above i
  put_by v vs rest rows false true e f rising fresh more none =
      let lt : u < v = is_lt u v f in
      let other : (v == u) ≡ false = neqb_above u v lt in
      λ i. add_new (fresh other (none lt)) i ∷ add_other v other i ∷ others vs (above_more v vs lt rising.0) i
  put_by v vs rest rows false false e f rising fresh more none =
      let other : (v == u) ≡ false = neqb_below u v (is_above u v e f) in
      λ i. add_other v other i ∷ more other i

  none_above : (us : List ℕ) → AllByRecursion (λ y. u < y) us → find (λ w. w == u) us ≡ None
  none_above [] above = refl
  none_above (v ∷ vs) above = rw (neqb_above u v above.0) (none_above vs above.1)

  skipped : (v : ℕ) (o : Option ℕ) → (v == u) ≡ false → o ≡ None → (if v == u then Some v else o) ≡ None
  skipped v o e is = rw (e, is) refl

  pub rows_with : (us : List ℕ) → Rising us → (find (λ w. w == u) us ≡ None → IsFresh life u ds) → with_universe New (map (row_by life ds) us) ≡ map (row_by life (Accepted (Add u) ∷ ds)) (with_number u us)
  rows_with [] rising fresh = ap (λ (r : SourceUniverse). r ∷ []) (add_new (fresh refl))
  rows_with (v ∷ vs) rising fresh =
      put_by v vs (with_number u vs) (with_universe New (map (row_by life ds) vs)) (u == v) (nat_lt u v) refl refl rising (λ other none. fresh (skipped v (find (λ w. w == u) vs) other none))
      (λ other. rows_with vs rising.1 (λ none. fresh (skipped v (find (λ w. w == u) vs) other none))) (λ lt. none_above vs (above_more v vs lt rising.0))
