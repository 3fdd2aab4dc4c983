-- A core keeps what is asked of the list of deeds, and its steps keep it so.
use Rattle.std.proofs.Common.{◌≡◌, ℕ, ◌+◌, ◌-◌, ◌%◌, ◌<◌, max, Bool, true, false, not, ◌&&◌, ◌==◌, cond, nat_lt, nat_le, if◌then◌else◌, List, [], ◌∷◌, length, map, filter, find, Option, Some, None, Result, Ok, Err, suc, zero, refl, arith, ap, sym, ◌∙◌}
use Rattle.std.specs.Option.{option_map}
use Rattle.sacn_packets.specs.Data.{Data}
use Rattle.sacn_patch.specs.Patch.{universe_frame}
use Rattle.sacn_cues.specs.Playing.{Played, moved, level_mastered}
use Rattle.sacn_cues.specs.Playing as play
use Rattle.sacn_cues.specs.History as history
use Rattle.sacn_cues.specs.History.{History, StepsFollowTheCalls, ReadingsShowTheLevels}
use Rattle.sacn_console.specs.declared.limits.TheConstants.{MIN_GAP, TERMINATIONS, DISCOVERY_INTERVAL}
use Rattle.sacn_discovery.specs.Pages.{page_count}
use Rattle.sacn_console.specs.Lights.{Lights, lights_at, frame, frame_now, lights_by_command, player_command}
use Rattle.sacn_console.proofs.Frames.{later, twice, after_moved}
use Rattle.sacn_console.proofs.Plain.{same_number, some_same, option_paged}
use Rattle.sacn_console.specs.Lines.{Page, Datagram, Packet, Paged, Deed, Accepted, Gave, same, has_passed, line_due, asks, state_sent, line_sent, line_after, is_ending, is_stopped}
use Rattle.sacn_console.specs.Core.{Core, standing, page_due, is_of, page_by, packet_with, line_found, due, due_by, after, answer, at, given, after_poll, after_command, taken, end_answer, start_answer, for_line, answer_of as kept_answer, universe_answer as kept_universe_answer}
use Rattle.sacn_console.specs.Due.{Life, Sent, packets, is_ended, packets_since, Mode, terminations, mode_by, mode, follow_new, latest, player_calls, with_player, level_by, frame_by, universe_due, is_stop, is_end, number_by, packet_by, standing_by, list_by, cycle_by, due_with, due_by_list, answer_by_list, end_in, start_in, if_there, or_else, unless, answer_of, universe_answer}
use Rattle.sacn_console.specs.Runs.{state_by, line_by, lights_by, core_by, Call, Order, Poll, answers, with_order, with_datagram, answers_by_list, StepsAreTheList}
use Rattle.sacn_console.specs.declared.command.Command.{Command}
use Rattle.sacn_console.specs.declared.command.Command.TheVariants.{Go, GoTo, SetLevel, Master, EndUniverse, StartUniverse}
use Rattle.sacn_console.specs.declared.command.ConsoleFault.{ConsoleFault}
use Rattle.sacn_console.specs.declared.line.UniverseLine.{UniverseLine}
use Rattle.sacn_console.specs.declared.line.Begun.{Begun}
use Rattle.sacn_console.specs.declared.line.State.{State}
use Rattle.sacn_console.specs.declared.line.State.TheVariants.{Running, Ending, Stopped}
use Rattle.sacn_console.proofs.Modes.{stop_same, end_same, end_answered, start_answered, state_due_same}

-- ---- what rests on the laws of the player

module _ (reads : ReadingsShowTheLevels) (follows : StepsFollowTheCalls) where
  -- the player after its commands shows what the list of them says
  played_frame : (life : Life) (t : ℕ) (ds : List Deed) (u : ℕ) → universe_frame (level_mastered (moved t (history.player_after life.cues (player_calls ds)))) life.patch u ≡ universe_frame (level_by life t ds) life.patch u
  played_frame life t ds u = ap (λ (f : ℕ → ℕ). universe_frame f life.patch u) (λ i channel. (reads life.cues (player_calls ds) t channel).1 i)

  frame_same : (life : Life) (t : ℕ) (ds : List Deed) (u : ℕ) → frame (lights_by life t ds) u t ≡ frame_by life u t ds
  unfolding frame frame_now lights_by frame_by
  frame_same life t ds u =
      ap (λ (p : Played). universe_frame (level_mastered p) life.patch u) (later (history.player_after life.cues (player_calls ds)) t t (omega arith)) ∙ played_frame life t ds u

  line_due_same : (life : Life) (t : ℕ) (ds : List Deed) (u : ℕ) → line_due (lights_by life t ds) t (line_by life.first ds u) ≡ universe_due life t ds u
  unfolding line_due universe_due mode
  line_due_same life t ds u =
      ap (λ (f : List ℕ). has_passed MIN_GAP t (latest (packets u ds)) && asks t (latest (packets u ds)) f (state_by (is_ended u ds) (packets_since u ds))) (frame_same life t ds u)
      ∙ state_due_same (frame_by life u t ds) t (latest (packets u ds)) (is_ended u ds) (packets_since u ds)

  found_same : (life : Life) (t : ℕ) (ds : List Deed) (us : List ℕ) →
      find (line_due (lights_by life t ds) t) (map (line_by life.first ds) us) ≡ option_map (line_by life.first ds) (find (universe_due life t ds) us)
  found_same life t ds [] = refl
  found_same life t ds (u ∷ us) =
      rw (line_due_same life t ds u)
      (elim (universe_due life t ds u) as (λ b. cond b (Some (line_by life.first ds u)) (find (line_due (lights_by life t ds) t) (map (line_by life.first ds) us)) ≡ option_map (line_by life.first ds) (cond b (Some u) (find (universe_due life t ds) us)))
      [ true ↦ refl | false ↦ found_same life t ds us ])

  -- ---- pages

  standing_same : (first : ℕ) (ds : List Deed) (us : List ℕ) → standing (map (line_by first ds) us) ≡ standing_by us ds
  unfolding standing standing_by mode
  standing_same first ds [] = refl
  standing_same first ds (u ∷ us) =
      rw (stop_same (is_ended u ds) (packets_since u ds))
      (elim (is_stop (mode_by (is_ended u ds) (terminations (packets_since u ds)))) as (λ b. map (λ l. l.universe) (cond (not b) (line_by first ds u ∷ filter (λ l. not (is_stopped l.state)) (map (line_by first ds) us)) (filter (λ l. not (is_stopped l.state)) (map (line_by first ds) us))) ≡ cond (not b) (u ∷ filter (λ u. not (is_stop (mode_by (is_ended u ds) (terminations (packets_since u ds))))) us) (filter (λ u. not (is_stop (mode_by (is_ended u ds) (terminations (packets_since u ds))))) us))
      [ true ↦ standing_same first ds us | false ↦ ap (λ (xs : List ℕ). u ∷ xs) (standing_same first ds us) ])

  page_same : (life : Life) (t : ℕ) (ds : List Deed) → page_due (core_by life t ds) ≡ page_by t (standing_by life.universes ds) (list_by life.universes ds) (cycle_by ds)
  unfolding page_due core_by
  page_same life t ds = rw (standing_same life.first ds life.universes) refl

  packet_same : (life : Life) (t : ℕ) (ds : List Deed) (u : ℕ) (f : List ℕ) → f ≡ frame_by life u t ds → packet_with life.sender (line_by life.first ds u) f ≡ packet_by life t ds u
  unfolding packet_with packet_by mode
  packet_same life t ds u f e = rw (e, end_same (is_ended u ds) (packets_since u ds)) refl

  found_packet : (life : Life) (t : ℕ) (ds : List Deed) (u : ℕ) → due_by (core_by life t ds) (Some (line_by life.first ds u)) ≡ Some (Packet (packet_by life t ds u))
  unfolding core_by
  found_packet life t ds u = ap (λ (d : Data). Some (Packet d)) (packet_same life t ds u (frame (lights_by life t ds) u t) (frame_same life t ds u))

  line_found_same : (life : Life) (t : ℕ) (ds : List Deed) → line_found (core_by life t ds) ≡ option_map (line_by life.first ds) (find (universe_due life t ds) life.universes)
  unfolding line_found core_by
  line_found_same life t ds = found_same life t ds life.universes

  due_found : (life : Life) (t : ℕ) (ds : List Deed) (o : Option ℕ) → due_by (core_by life t ds) (option_map (line_by life.first ds) o) ≡ due_with life t ds o
  due_found life t ds None = ap (option_map Paged) (page_same life t ds)
  due_found life t ds (Some u) = found_packet life t ds u

  pub due_same : (life : Life) (t : ℕ) (ds : List Deed) → due (core_by life t ds) ≡ due_by_list life t ds
  unfolding due due_by_list
  due_same life t ds = ap (due_by (core_by life t ds)) (line_found_same life t ds) ∙ due_found life t ds (find (universe_due life t ds) life.universes)

  -- ---- a deed

  -- a packet ends where its universe is ending, and a first page lists what is not stopped
  abbrev pub IsProper : Life → List Deed → Datagram → Type 0
  IsProper life ds (Packet d) = d.terminated ≡ is_end (mode d.universe ds)
  IsProper life ds (Paged p) = (p.page == 0) ≡ true → p.list ≡ standing_by life.universes ds

  end_step : (n : ℕ) (f : List ℕ) → nat_lt n 3 ≡ true → state_sent f (Ending (TERMINATIONS - n)) ≡ (if nat_lt (n + 1) 3 then Ending (TERMINATIONS - (n + 1)) else Stopped)
  unfolding state_sent
  end_step zero f h = refl
  end_step (suc zero) f h = refl
  end_step (suc (suc zero)) f h = refl
  end_step (suc (suc (suc n))) f h = absurd (grind arith)

  stopped_step : (f : List ℕ) → state_sent f Stopped ≡ Stopped
  unfolding state_sent
  stopped_step f = refl

  ended_step : (n : ℕ) (f : List ℕ) (b c : Bool) → nat_lt n 3 ≡ b → c ≡ is_ending (if b then Ending (TERMINATIONS - n) else Stopped) →
      state_sent f (if b then Ending (TERMINATIONS - n) else Stopped) ≡ (if nat_lt (if c then n + 1 else n) 3 then Ending (TERMINATIONS - (if c then n + 1 else n)) else Stopped)
  ended_step n f true c h e = rw e (end_step n f h)
  ended_step n f false c h e = rw (e, h) (stopped_step f)

  run_begins : (t : ℕ) (d : Data) → state_sent d.slots (Running None) ≡ state_by false (record { moment = t; data_sent = d } ∷ [])
  unfolding state_sent
  run_begins t d = refl

  less_one : (x : ℕ) → (3 - x) - 1 ≡ 3 - (x + 1)
  less_one x = omega arith

  run_goes_on : (t : ℕ) (d : Data) (a : Sent) (ss : List Sent) → state_sent d.slots (state_by false (a ∷ ss)) ≡ state_by false (record { moment = t; data_sent = d } ∷ a ∷ ss)
  unfolding state_sent
  run_goes_on t d a ss =
      elim (same a.data_sent.slots d.slots) as (λ b. cond b (Running (Some (record { frame = d.slots; owed = (3 - follow_new (a ∷ ss)) - 1 }))) (Running (Some (record { frame = d.slots; owed = 3 }))) ≡ Running (Some (record { frame = d.slots; owed = 3 - cond b (follow_new (a ∷ ss) + 1) 0 })))
      [ true ↦ ap (λ (n : ℕ). Running (Some (record { frame = d.slots; owed = n }))) (less_one (follow_new (a ∷ ss))) | false ↦ refl ]

  state_step : (t : ℕ) (d : Data) (e : Bool) (ss : List Sent) → d.terminated ≡ is_ending (state_by e ss) →
      state_sent d.slots (state_by e ss) ≡ state_by e (record { moment = t; data_sent = d } ∷ ss)
  state_step t d true ss h = ended_step (terminations ss) d.slots (nat_lt (terminations ss) TERMINATIONS) d.terminated refl h
  state_step t d false [] h = run_begins t d
  state_step t d false (a ∷ ss) h = run_goes_on t d a ss

  -- ---- one line, after a deed

  number_step : (first n : ℕ) → ((first + n) % 256 + 1) % 256 ≡ (first + suc n) % 256
  number_step first n = omega arith

  sent_step : (first t : ℕ) (d : Data) (ds : List Deed) (u : ℕ) → d.terminated ≡ is_ending (state_by (is_ended u ds) (packets_since u ds)) →
      line_sent t d.slots (line_by first ds u) ≡ record { universe = u; state = state_by (is_ended u ds) (record { moment = t; data_sent = d } ∷ packets_since u ds); sequence_number = (first + suc (length (packets u ds))) % 256; last = Some t }
  unfolding line_sent
  sent_step first t d ds u h = rw (state_step t d (is_ended u ds) (packets_since u ds) h, number_step first (length (packets u ds))) refl

  packet_step : (first t : ℕ) (d : Data) (ds : List Deed) (u : ℕ) (b : Bool) → (b ≡ true → d.terminated ≡ is_ending (state_by (is_ended u ds) (packets_since u ds))) →
      (if b then line_sent t d.slots (line_by first ds u) else line_by first ds u) ≡ record {
        universe = u;
        state = state_by (is_ended u ds) (if b then record { moment = t; data_sent = d } ∷ packets_since u ds else packets_since u ds);
        sequence_number = (first + length (if b then record { moment = t; data_sent = d } ∷ packets u ds else packets u ds)) % 256;
        last = latest (if b then record { moment = t; data_sent = d } ∷ packets u ds else packets u ds);
      }
  packet_step first t d ds u true h = sent_step first t d ds u (h refl)
  packet_step first t d ds u false h = refl

  of_universe : (u : ℕ) (d : Data) (ds : List Deed) → d.terminated ≡ is_end (mode d.universe ds) → (u == d.universe) ≡ true → d.terminated ≡ is_ending (state_by (is_ended u ds) (packets_since u ds))
  unfolding mode
  of_universe u d ds h e =
      let s : u ≡ d.universe = same_number u d.universe e in
      rw (end_same (is_ended u ds) (packets_since u ds), s) h

  line_gave : (life : Life) (t : ℕ) (g : Datagram) (ds : List Deed) (u : ℕ) → IsProper life ds g → line_after (Gave t g) (line_by life.first ds u) ≡ line_by life.first (Gave t g ∷ ds) u
  unfolding line_after
  line_gave life t (Packet d) ds u h = packet_step life.first t d ds u (u == d.universe) (λ e. of_universe u d ds h e)
  line_gave life t (Paged p) ds u h = refl

  line_accepted : (first t : ℕ) (k : Command) (ds : List Deed) (u : ℕ) → line_after (Accepted t k) (line_by first ds u) ≡ line_by first (Accepted t k ∷ ds) u
  unfolding line_after
  line_accepted first t Go ds u = refl
  line_accepted first t (GoTo n) ds u = refl
  line_accepted first t (SetLevel c n) ds u = refl
  line_accepted first t (Master m) ds u = refl
  line_accepted first t (EndUniverse v) ds u =
      elim (u == v) as (λ b. (if b then record { universe = u; state = Ending TERMINATIONS; sequence_number = number_by first u ds; last = latest (packets u ds) } else line_by first ds u) ≡ record { universe = u; state = state_by (or_else (if b then Some true else None) (is_ended u ds)) (unless (if b then Some true else None) (packets_since u ds)); sequence_number = number_by first u ds; last = latest (packets u ds) })
      [ true ↦ refl | false ↦ refl ]
  line_accepted first t (StartUniverse v) ds u =
      elim (u == v) as (λ b. (if b then record { universe = u; state = Running None; sequence_number = number_by first u ds; last = latest (packets u ds) } else line_by first ds u) ≡ record { universe = u; state = state_by (or_else (if b then Some false else None) (is_ended u ds)) (unless (if b then Some false else None) (packets_since u ds)); sequence_number = number_by first u ds; last = latest (packets u ds) })
      [ true ↦ refl | false ↦ refl ]

  lines_gave : (life : Life) (t : ℕ) (g : Datagram) (ds : List Deed) (us : List ℕ) → IsProper life ds g → map (line_after (Gave t g)) (map (line_by life.first ds) us) ≡ map (line_by life.first (Gave t g ∷ ds)) us
  lines_gave life t g ds [] h = refl
  lines_gave life t g ds (u ∷ us) h = rw (line_gave life t g ds u h, lines_gave life t g ds us h) refl

  lines_accepted : (first t : ℕ) (k : Command) (ds : List Deed) (us : List ℕ) → map (line_after (Accepted t k)) (map (line_by first ds) us) ≡ map (line_by first (Accepted t k ∷ ds)) us
  lines_accepted first t k ds [] = refl
  lines_accepted first t k ds (u ∷ us) = rw (line_accepted first t k ds u, lines_accepted first t k ds us) refl

  -- ---- the core, after a deed

  listed_gave : (life : Life) (t : ℕ) (p : Page) (ds : List Deed) (b : Bool) → (b ≡ true → p.list ≡ standing_by life.universes ds) →
      (if b then p.list else list_by life.universes ds) ≡ (if b then standing_by life.universes ds else list_by life.universes ds)
  listed_gave life t p ds true h = h refl
  listed_gave life t p ds false h = refl

  lights_ordered : (life : Life) (t : ℕ) (calls : History) (o : Option play.Command) → lights_by_command t o (lights_at t (record { patch = life.patch; player = history.player_after life.cues calls })) ≡ lights_at t (record { patch = life.patch; player = history.player_after life.cues (with_player t o calls) })
  lights_ordered life t calls None = refl
  lights_ordered life t calls (Some k) = ap (λ (p : Played). let l : Lights = record { patch = life.patch; player = p } in l) (after_moved t k (history.player_after life.cues calls))

  lights_accepted : (life : Life) (t : ℕ) (k : Command) (ds : List Deed) → lights_by_command t (player_command k) (lights_by life t ds) ≡ lights_by life t (Accepted t k ∷ ds)
  unfolding lights_by
  lights_accepted life t k ds = lights_ordered life t (player_calls ds) (player_command k)

  core_accepted : (life : Life) (t : ℕ) (k : Command) (ds : List Deed) → after (Accepted t k) (core_by life t ds) ≡ core_by life t (Accepted t k ∷ ds)
  unfolding after core_by
  core_accepted life t k ds = rw (lines_accepted life.first t k ds life.universes, lights_accepted life t k ds) refl

  lights_gave : (life : Life) (t : ℕ) (g : Datagram) (ds : List Deed) → lights_by life t ds ≡ lights_by life t (Gave t g ∷ ds)
  unfolding lights_by
  lights_gave life t g ds = refl

  core_gave : (life : Life) (t : ℕ) (g : Datagram) (ds : List Deed) → IsProper life ds g → after (Gave t g) (core_by life t ds) ≡ core_by life t (Gave t g ∷ ds)
  unfolding after core_by
  core_gave life t (Packet d) ds h = rw (lines_gave life t (Packet d) ds life.universes h, lights_gave life t (Packet d) ds) refl
  core_gave life t (Paged p) ds h = rw (lines_gave life t (Paged p) ds life.universes h, listed_gave life t p ds (p.page == 0) h, lights_gave life t (Paged p) ds) refl

  -- ---- what is due is proper

  one_later : (t : ℕ) (b : Begun) → record { moment = t; next = 1 } ≡ b → 0 < b.next
  one_later t b e = let f : 1 ≡ b.next = ap (λ (x : Begun). x.next) e in omega arith

  more_later : (m n : ℕ) (b : Begun) → record { moment = m; next = n + 1 } ≡ b → 0 < b.next
  more_later m n b e = let f : n + 1 ≡ b.next = ap (λ (x : Begun). x.next) e in omega arith

  paged_later : (t : ℕ) (p : Page) (z : Bool) (o : Option Begun) (b : Begun) →
      (if z then Some (record { moment = t; next = 1 }) else option_map (λ (b : Begun). record { moment = b.moment; next = p.page + 1 }) o) ≡ Some b → 0 < b.next
  paged_later t p true o b h = one_later t b (some_same _ _ h)
  paged_later t p false None b h = absurd (cc)
  paged_later t p false (Some a) b h = more_later a.moment p.page b (some_same _ _ h)

  cycle_later : (ds : List Deed) (b : Begun) → cycle_by ds ≡ Some b → 0 < b.next
  cycle_later [] b h = absurd (cc)
  cycle_later (Gave t (Packet d) ∷ ds) b h = cycle_later ds b h
  cycle_later (Accepted t k ∷ ds) b h = cycle_later ds b h
  cycle_later (Gave t (Paged p) ∷ ds) b h = paged_later t p (p.page == 0) (cycle_by ds) b h

  not_first : (n : ℕ) → 0 < n → (n == 0) ≡ true → ⊥
  not_first n lt e = absurd (grind arith)

  page_cases : (life : Life) (t : ℕ) (ds : List Deed) (b : Begun) (p : Page) → 0 < b.next → (x y : Bool) →
      (if x then Some (record { list = list_by life.universes ds; page = b.next }) else (if y then Some (record { list = standing_by life.universes ds; page = 0 }) else None)) ≡ Some p → IsProper life ds (Paged p)
  page_cases life t ds b p lt true y e =
      let n : b.next ≡ p.page = ap (λ (x : Page). x.page) (some_same (record { list = list_by life.universes ds; page = b.next }) p e) in
      λ z. absurd (not_first p.page (rw n at lt) z)
  page_cases life t ds b p lt false true e = λ z. sym (ap (λ (x : Page). x.list) (some_same (record { list = standing_by life.universes ds; page = 0 }) p e))
  page_cases life t ds b p lt false false e = absurd (cc)

  page_proper : (life : Life) (t : ℕ) (ds : List Deed) (o : Option Begun) (p : Page) → ((b : Begun) → o ≡ Some b → 0 < b.next) →
      page_by t (standing_by life.universes ds) (list_by life.universes ds) o ≡ Some p → IsProper life ds (Paged p)
  page_proper life t ds None p later e = λ z. sym (ap (λ (x : Page). x.list) (some_same (record { list = standing_by life.universes ds; page = 0 }) p e))
  page_proper life t ds (Some b) p later e =
      page_cases life t ds b p (later b refl) (nat_lt b.next (page_count (length (list_by life.universes ds)))) (nat_le DISCOVERY_INTERVAL (t - b.moment)) e

  packet_proper : (life : Life) (t : ℕ) (ds : List Deed) (u : ℕ) → IsProper life ds (Packet (packet_by life t ds u))
  unfolding packet_by
  packet_proper life t ds u = refl

  due_proper : (life : Life) (t : ℕ) (ds : List Deed) (o : Option ℕ) (g : Datagram) → due_with life t ds o ≡ Some g → IsProper life ds g
  due_proper life t ds (Some u) g e = rw (← some_same _ _ e) (packet_proper life t ds u)
  due_proper life t ds None g e =
      let w = option_paged _ g e in
      rw w.2 (page_proper life t ds (cycle_by ds) w.0 (cycle_later ds) w.1)

  abbrev given_at : ℕ → Option Datagram → Core → Core
  given_at t None c = c
  given_at t (Some g) c = after (Gave t g) c

  given_step : (life : Life) (t : ℕ) (ds : List Deed) (o : Option Datagram) → ((g : Datagram) → o ≡ Some g → IsProper life ds g) → given_at t o (core_by life t ds) ≡ core_by life t (with_datagram t o ds)
  given_step life t ds None h = refl
  given_step life t ds (Some g) h = core_gave life t g ds (h g refl)

  due_list_proper : (life : Life) (t : ℕ) (ds : List Deed) (g : Datagram) → due_by_list life t ds ≡ Some g → IsProper life ds g
  unfolding due_by_list
  due_list_proper life t ds g e = due_proper life t ds (find (universe_due life t ds) life.universes) g e

  lights_moved : (life : Life) (t now : ℕ) (ds : List Deed) → lights_at now (lights_by life t ds) ≡ lights_by life (max t now) ds
  unfolding lights_by
  lights_moved life t now ds = ap (λ (p : Played). let l : Lights = record { patch = life.patch; player = p } in l) (twice (history.player_after life.cues (player_calls ds)) t now)

  core_moved : (life : Life) (t now : ℕ) (ds : List Deed) → at now (core_by life t ds) ≡ core_by life (max t now) ds
  unfolding core_by
  core_moved life t now ds = rw (lights_moved life t now ds) refl

  moment_of : (life : Life) (t : ℕ) (ds : List Deed) → (core_by life t ds).moment ≡ t
  unfolding core_by
  moment_of life t ds = refl

  given_moment : (o : Option Datagram) (c : Core) (m : ℕ) → c.moment ≡ m → given o c ≡ given_at m o c
  given_moment None c m e = refl
  given_moment (Some g) c m e = rw e refl

  at_moment : (life : Life) (t now : ℕ) (ds : List Deed) (o : Option Datagram) → o ≡ due (core_by life (max t now) ds) → after_poll now (core_by life t ds) ≡ given_at (max t now) o (core_by life (max t now) ds)
  at_moment life t now ds o e = rw (core_moved life t now ds, ← e) (given_moment o (core_by life (max t now) ds) (max t now) (moment_of life (max t now) ds))

  pub poll_step : (life : Life) (t now : ℕ) (ds : List Deed) → after_poll now (core_by life t ds) ≡ core_by life (max t now) (with_datagram (max t now) (due_by_list life (max t now) ds) ds)
  poll_step life t now ds =
      let m : ℕ = max t now in
      let a = due_same life m ds in
      at_moment life t now ds (due (core_by life m ds)) refl ∙ ap (λ (o : Option Datagram). given_at m o (core_by life m ds)) a ∙ given_step life m ds (due_by_list life m ds) (due_list_proper life m ds)

  -- ---- commands

  answer_cases : (f : State → Result (Unit {0}) ConsoleFault) (g : Mode → Result (Unit {0}) ConsoleFault) (first : ℕ) (ds : List Deed) (u x : ℕ) (b : Bool) (o : Option UniverseLine) (v : Option ℕ) →
      (b ≡ true → f (state_by (is_ended x ds) (packets_since x ds)) ≡ g (mode_by (is_ended u ds) (terminations (packets_since u ds)))) →
      for_line f o ≡ if_there v (g (mode_by (is_ended u ds) (terminations (packets_since u ds)))) →
      for_line f (if b then Some (line_by first ds x) else o) ≡ if_there (if b then Some x else v) (g (mode_by (is_ended u ds) (terminations (packets_since u ds))))
  answer_cases f g first ds u x true o v h rest = h refl
  answer_cases f g first ds u x false o v h rest = rest

  answer_found : (f : State → Result (Unit {0}) ConsoleFault) (g : Mode → Result (Unit {0}) ConsoleFault) → ((e : Bool) (ss : List Sent) → f (state_by e ss) ≡ g (mode_by e (terminations ss))) →
      (first : ℕ) (ds : List Deed) (u : ℕ) (us : List ℕ) → for_line f (find (is_of u) (map (line_by first ds) us)) ≡ if_there (find (λ v. v == u) us) (g (mode u ds))
  unfolding mode
  answer_found f g h first ds u [] = refl
  answer_found f g h first ds u (x ∷ us) = answer_cases f g first ds u x (x == u) (find (is_of u) (map (line_by first ds) us)) (find (λ v. v == u) us) (λ e. rw (same_number x u e) (h (is_ended u ds) (packets_since u ds))) (answer_found f g h first ds u us)

  player_answered : (life : Life) (t : ℕ) (ds : List Deed) (o : Option play.Command) (r : Result (Unit {0}) ConsoleFault) → kept_answer o (core_by life t ds) r ≡ answer_of o life ds r
  unfolding core_by lights_by
  player_answered life t ds None r = refl
  player_answered life t ds (Some k) r =
      let is = follows life.cues (player_calls ds) in
      rw (is.list, is.current) refl

  universe_answered : (life : Life) (t : ℕ) (k : Command) (ds : List Deed) → kept_universe_answer k (core_by life t ds) ≡ universe_answer k life ds
  unfolding core_by
  universe_answered life t Go ds = refl
  universe_answered life t (GoTo n) ds = refl
  universe_answered life t (SetLevel c n) ds = refl
  universe_answered life t (Master m) ds = refl
  universe_answered life t (EndUniverse u) ds = answer_found end_answer end_in end_answered life.first ds u life.universes
  universe_answered life t (StartUniverse u) ds = answer_found start_answer start_in start_answered life.first ds u life.universes

  answer_same : (life : Life) (t : ℕ) (k : Command) (ds : List Deed) → answer k (core_by life t ds) ≡ answer_by_list life k ds
  unfolding answer answer_by_list
  answer_same life t k ds = rw (universe_answered life t k ds) (player_answered life t ds (player_command k) (universe_answer k life ds))

  abbrev taken_at : ℕ → Command → Result (Unit {0}) ConsoleFault → Core → Core
  taken_at t k (Ok x) c = after (Accepted t k) c
  taken_at t k (Err e) c = c

  taken_same : (k : Command) (r : Result (Unit {0}) ConsoleFault) (c : Core) (m : ℕ) → c.moment ≡ m → taken k r c ≡ taken_at m k r c
  taken_same k (Ok x) c m e = rw e refl
  taken_same k (Err x) c m e = refl

  taken_moment : (life : Life) (t now : ℕ) (k : Command) (ds : List Deed) (r : Result (Unit {0}) ConsoleFault) → r ≡ answer k (core_by life (max t now) ds) → after_command now k (core_by life t ds) ≡ taken_at (max t now) k r (core_by life (max t now) ds)
  taken_moment life t now k ds r e = rw (core_moved life t now ds, ← e) (taken_same k r (core_by life (max t now) ds) (max t now) (moment_of life (max t now) ds))

  taken_step : (life : Life) (t : ℕ) (k : Command) (ds : List Deed) (r : Result (Unit {0}) ConsoleFault) → taken_at t k r (core_by life t ds) ≡ core_by life t (with_order t k r ds)
  taken_step life t k ds (Ok x) = core_accepted life t k ds
  taken_step life t k ds (Err e) = refl

  pub command_step : (life : Life) (t now : ℕ) (k : Command) (ds : List Deed) → after_command now k (core_by life t ds) ≡ core_by life (max t now) (with_order (max t now) k (answer_by_list life k ds) ds)
  command_step life t now k ds =
      let m : ℕ = max t now in
      taken_moment life t now k ds (answer k (core_by life m ds)) refl ∙ ap (λ (r : Result (Unit {0}) ConsoleFault). taken_at m k r (core_by life m ds)) (answer_same life m k ds) ∙ taken_step life m k ds (answer_by_list life k ds)

  -- ---- runs

  pub runs_same : (life : Life) (calls : List Call) (t : ℕ) (ds : List Deed) → answers (core_by life t ds) calls ≡ answers_by_list life t ds calls
  runs_same life [] t ds = refl
  runs_same life (Order now k ∷ calls) t ds =
      rw (command_step life t now k ds, core_moved life t now ds, answer_same life (max t now) k ds, runs_same life calls (max t now) (with_order (max t now) k (answer_by_list life k ds) ds)) refl
  runs_same life (Poll now ∷ calls) t ds =
      rw (poll_step life t now ds, core_moved life t now ds, due_same life (max t now) ds, runs_same life calls (max t now) (with_datagram (max t now) (due_by_list life (max t now) ds) ds)) refl

  pub steps_are_the_list : StepsAreTheList
  steps_are_the_list life calls = runs_same life calls 0 []
