-- A deed that changes one line, where no two have one universe.
use Rattle.std.proofs.Common.{◌≡◌, ℕ, ◌+◌, ◌<◌, ◌≤◌, true, false, not, cond, Result, Ok, if◌then◌else◌, ◌==◌, List, [], ◌∷◌, ◌++◌, length, get_or, slice_index_or, slice_set, drop, map, filter, find, Err, Option, Some, None, suc, zero, refl, add-one, max, OnOk, OnErr, IfErr, arith, ap, sym, ◌∙◌}
use Rattle.std.specs.List.{AllByRecursion}
use Rattle.std.proofs.lemmas.List.{get_or_read, length-set, length-map}
use Rattle.sacn_patch.specs.Patch.{universe_frame}
use Rattle.sacn_console.specs.Lights.{frame_now}
use Rattle.std.proofs.Math.Seq.{map-set_same}
use Rattle.std.specs.List.Sorted.{IsStrictlyIncreasing}
use Rattle.sacn_cues.specs.Playing.{Played, moved, refusal}
use Rattle.sacn_cues.specs.Playing as play
use Rattle.sacn_cues.specs.declared.fault.PlayFault.{PlayFault}
use Rattle.sacn_packets.specs.Universe.{IsUniverse}
use Rattle.sacn_console.specs.Lights.{Lights, frame, player_command, console_fault, play_answer, console_answer}
use Rattle.sacn_console.specs.declared.limits.TheConstants.{TERMINATIONS}
use Rattle.sacn_console.proofs.Frames.{settled}
use Rattle.sacn_console.specs.Lines.{Page, Packet, Paged, Gave, Accepted, line_in, is_stopped, line_sent, line_after}
use Rattle.sacn_packets.specs.Universe.{Rising}
use Rattle.sacn_console.specs.Core.{Core, CoreOk, taken, answer, is_of, end_answer, start_answer, universes_of, packet_with, packet_of, packet_at, packet_text, line_at, no_line, standing, after, over, size, due_datagram}
use Rattle.sacn_console.specs.declared.console.DueDatagram.{DueDatagram}
use Rattle.sacn_console.specs.declared.line.Begun.{Begun}
use Rattle.sacn_console.specs.declared.sender.Sender.{Sender}
use Rattle.sacn_console.specs.declared.line.UniverseLine.{UniverseLine}
use Rattle.sacn_console.specs.declared.line.State.{State}
use Rattle.sacn_console.specs.declared.line.State.TheVariants.{Running, Ending}
use Rattle.sacn_console.specs.declared.command.ConsoleFault.TheVariants as fault
use Rattle.sacn_console.specs.declared.command.Command.TheVariants.{Go, GoTo, SetLevel, Master, EndUniverse, StartUniverse}
use Rattle.sacn_console.specs.declared.command.Command.{Command}

abbrev pub changed : ℕ → (UniverseLine → UniverseLine) → UniverseLine → UniverseLine
changed u g l = if l.universe == u then g l else l

neqb : (a b : ℕ) → a < b → (b == a) ≡ false
neqb a b lt = grind arith

eqb_self : (a : ℕ) → (a == a) ≡ true
eqb_self a = grind arith

pub none_changed : (u : ℕ) (g : UniverseLine → UniverseLine) (xs : List UniverseLine) → AllByRecursion (λ y. u < y) (universes_of xs) → map (changed u g) xs ≡ xs
none_changed u g [] below = refl
none_changed u g (x ∷ xs) below = rw (neqb u x.universe below.0, none_changed u g xs below.1) refl

pub below_all : (x : ℕ) (xs : List UniverseLine) (i : ℕ) (d : UniverseLine) → AllByRecursion (λ y. x < y) (universes_of xs) → i < length xs → x < (get_or xs i d).universe
below_all x [] i d below lt = absurd (omega arith)
below_all x (y ∷ ys) zero d below lt = below.0
below_all x (y ∷ ys) (suc i) d below lt = below_all x ys i d below.1 (omega arith)

neqb_above : (a b : ℕ) → a < b → (a == b) ≡ false
neqb_above a b lt = grind arith

pub one_changed : (g : UniverseLine → UniverseLine) (xs : List UniverseLine) (i : ℕ) (d : UniverseLine) → Rising (universes_of xs) → i < length xs → slice_set xs i (g (get_or xs i d)) ≡ map (changed (get_or xs i d).universe g) xs
one_changed g [] i d rising lt = absurd (omega arith)
one_changed g (x ∷ xs) zero d rising lt = rw (eqb_self x.universe, none_changed x.universe g xs rising.0) refl
one_changed g (x ∷ xs) (suc i) d rising lt =
    let above = below_all x.universe xs i d rising.0 (omega arith) in
    rw (neqb_above x.universe (get_or xs i d).universe above, ← one_changed g xs i d rising.1 (omega arith)) refl

-- rising lists ascend
ascends_with : (x : ℕ) (xs : List ℕ) → IsStrictlyIncreasing xs → AllByRecursion (λ y. x < y) xs → IsStrictlyIncreasing (x ∷ xs)
ascends_with x [] rest above k lt = absurd (omega (arith, lt))
ascends_with x (y ∷ ys) rest above zero lt = above.0
ascends_with x (y ∷ ys) rest above (suc k) lt =
    let r : get_or {A = ℕ} (y ∷ ys) k 0 < get_or {A = ℕ} (y ∷ ys) (k + 1) 0 = rest k (omega (arith, lt)) in
    let r2 : get_or {A = ℕ} (y ∷ ys) k 0 < get_or {A = ℕ} (y ∷ ys) (suc k) 0 = rw add-one at r in
    let g : get_or {A = ℕ} (x ∷ y ∷ ys) (suc k) 0 < get_or {A = ℕ} (x ∷ y ∷ ys) (suc k + 1) 0 = rw add-one r2 in
    g

pub ascending : (xs : List ℕ) → Rising xs → IsStrictlyIncreasing xs
ascending [] rising = λ k lt. absurd (omega (arith, lt))
ascending (x ∷ xs) rising = ascends_with x xs (ascending xs rising.1) rising.0

-- the lines after a packet of the line at place i
pub packet_given : (c : Core) (i : ℕ) (x : UniverseLine) (f : List ℕ) → Rising (universes_of c.lines) → i < length c.lines → x ≡ slice_index_or c.lines i x → f ≡ frame c.lights x.universe c.moment →
    slice_set c.lines i (line_sent c.moment f x) ≡ map (line_after (Gave c.moment (Packet (packet_of c.sender c.lights c.moment x)))) c.lines
unfolding line_after packet_with
packet_given c i x f rising lt is e =
    let b = one_changed (line_sent c.moment f) c.lines i x rising lt in
    rw (← e) (rw (← is) at b)

-- ---- what a packet leaves as it was
kept_above : (u : ℕ) (xs : List UniverseLine) → AllByRecursion (λ y. u < y) (universes_of xs) → AllByRecursion (λ y. u < y) (map (λ l. l.universe) (filter (λ l. not (is_stopped l.state)) xs))
kept_above u [] below = tt
kept_above u (x ∷ xs) below =
    elim (is_stopped x.state) as (λ b. AllByRecursion (λ y. u < y) (map (λ l. l.universe) (cond (not b) (x ∷ filter (λ l. not (is_stopped l.state)) xs) (filter (λ l. not (is_stopped l.state)) xs)))) [
      | true ↦ kept_above u xs below.1
      | false ↦ (below.0, kept_above u xs below.1)
    ]

pub standing_rises : (xs : List UniverseLine) → Rising (universes_of xs) → Rising (standing xs)
unfolding standing
standing_rises [] rising = tt
standing_rises (x ∷ xs) rising =
    elim (is_stopped x.state) as (λ b. Rising (map (λ l. l.universe) (cond (not b) (x ∷ filter (λ l. not (is_stopped l.state)) xs) (filter (λ l. not (is_stopped l.state)) xs)))) [
      | true ↦ standing_rises xs rising.1
      | false ↦ (kept_above x.universe xs rising.0, standing_rises xs rising.1)
    ]

same_lines : (t : ℕ) (p : Page) (xs : List UniverseLine) → map (line_after (Gave t (Paged p))) xs ≡ xs
unfolding line_after
same_lines t p [] = refl
same_lines t p (x ∷ xs) = rw (same_lines t p xs) refl

first_later : (t : ℕ) (b : Begun) → Some (record { moment = t; next = 1 }) ≡ Some b → 0 < b.next
first_later t b e =
    let f : record { moment = t; next = 1 } ≡ b = cc in
    let g : 1 ≡ b.next = ap (λ (x : Begun). x.next) f in
    omega arith

-- ---- the core after a datagram, where v is what c is seen to be

rebuilt : (c : Core) (lines : List UniverseLine) (cycle : Option Begun) (listed : List ℕ) → c.lines ≡ lines → c.cycle ≡ cycle → c.listed ≡ listed → c ≡ record c { lines = lines; cycle = cycle; listed = listed }
rebuilt c lines cycle listed a b d = rw (← a, ← b, ← d) refl

pub core_given : (v c : Core) (i : ℕ) (x y : UniverseLine) (f : List ℕ) → v ≡ c → CoreOk v → i < length c.lines → x ≡ slice_index_or v.lines i x → f ≡ frame v.lights x.universe v.moment → y ≡ line_sent v.moment f x →
    record v { lines = slice_set v.lines i y } ≡ after (Gave c.moment (Packet (packet_at c i))) c
unfolding after
core_given v c i x y f e ok lt is fe ye =
    let lt2 : i < length v.lines = rw e lt in
    let here : x ≡ line_at v i = get_or_read v.lines i x lt2 is no_line in
    let g = packet_given v i x f ok.rising lt2 is fe in
    let g2 : slice_set v.lines i y ≡ map (line_after (Gave v.moment (Packet (packet_at v i)))) v.lines = rw (ye, ← here) g in
    rw (← e) (ap (λ (ls : List UniverseLine). record v { lines = ls }) g2)

pub core_first : (v c : Core) (ls : List UniverseLine) (listed : List ℕ) → v ≡ c → listed ≡ standing ls → ls ≡ v.lines → record v { cycle = Some (record { moment = v.moment; next = 1 }); listed = listed } ≡ after (Gave c.moment (Paged (record { list = standing c.lines; page = 0 }))) c
unfolding after
core_first v c ls listed e is le =
    let is2 : listed ≡ standing v.lines = is ∙ ap standing le in
    rw (← e, is2, same_lines v.moment (record { list = standing v.lines; page = 0 }) v.lines) refl

pub ok_first : (v : Core) (ls : List UniverseLine) (listed : List ℕ) → CoreOk v → listed ≡ standing ls → ls ≡ v.lines → CoreOk (record v { cycle = Some (record { moment = v.moment; next = 1 }); listed = listed })
ok_first v ls listed ok is le = record {
  rising = ok.rising;
  universes = ok.universes;
  few = ok.few;
  listed = rw (is, le) (standing_rises v.lines ok.rising);
  priority = ok.priority;
  clock = ok.clock;
  later = λ b e. first_later v.moment b e;
}

is_later : (n : ℕ) → 0 < n → (n == 0) ≡ false
is_later n lt = grind arith

pub core_next : (v c : Core) (b : Begun) → v ≡ c → CoreOk v → c.cycle ≡ Some b → record v { cycle = Some (record { moment = b.moment; next = b.next + 1 }) } ≡ after (Gave c.moment (Paged (record { list = c.listed; page = b.next }))) c
unfolding after
core_next v c b e ok is =
    let is2 : v.cycle ≡ Some b = rw e is in
    rw (← e, same_lines v.moment (record { list = v.listed; page = b.next }) v.lines, is_later b.next (ok.later b is2), is2) refl

-- ---- what each core keeps

sent_universe : (t : ℕ) (f : List ℕ) (x : UniverseLine) → (line_sent t f x).universe ≡ x.universe
unfolding line_sent
sent_universe t f x = refl

pub ok_given : (v : Core) (i : ℕ) (x y : UniverseLine) (t : ℕ) (f : List ℕ) → CoreOk v → x ≡ slice_index_or v.lines i x → y ≡ line_sent t f x → CoreOk (record v { lines = slice_set v.lines i y })
ok_given v i x y t f ok is ye =
    let u : y.universe ≡ (get_or v.lines i x).universe = ap (λ (l : UniverseLine). l.universe) ye ∙ sent_universe t f x ∙ ap (λ (l : UniverseLine). l.universe) is in
    let same : universes_of (slice_set v.lines i y) ≡ universes_of v.lines = map-set_same (λ (l : UniverseLine). l.universe) v.lines i y x u in
    record {
      rising = rw same ok.rising;
      universes = rw same ok.universes;
      few = rw (length-set v.lines i y) ok.few;
      listed = ok.listed;
      priority = ok.priority;
      clock = ok.clock;
      later = ok.later;
    }

universe_in : (xs : List UniverseLine) (i : ℕ) (d : UniverseLine) → AllByRecursion IsUniverse (universes_of xs) → i < length xs → (1 ≤ (get_or xs i d).universe) × ((get_or xs i d).universe ≤ 63999)
universe_in [] i d all lt = absurd (omega arith)
universe_in (x ∷ xs) zero d all lt = all.0
universe_in (x ∷ xs) (suc i) d all lt = universe_in xs i d all.1 (omega arith)

pub universe_ok : (v c : Core) (i : ℕ) (x : UniverseLine) → v ≡ c → CoreOk v → i < length c.lines → x ≡ slice_index_or v.lines i x → (1 ≤ x.universe) × (x.universe ≤ 63999)
universe_ok v c i x e ok lt is =
    let lt2 : i < length v.lines = rw e lt in
    rw is (universe_in v.lines i x ok.universes lt2)

pub frame_len : (p : Lights) (u t : ℕ) → length (frame p u t) ≡ 512
unfolding frame frame_now universe_frame
frame_len p u t = rw length-map refl

pub packet_len : (sender : Sender) (p : Lights) (t : ℕ) (l : UniverseLine) → size (Packet (packet_of sender p t l)) ≡ 638
unfolding packet_with
packet_len sender p t l = ap (λ (n : ℕ). 126 + n) (frame_len p l.universe t)

pub packet_over : (v c : Core) (i : ℕ) (x : UniverseLine) (f out new : List ℕ) → v ≡ c → i < length c.lines → x ≡ slice_index_or v.lines i x → f ≡ frame v.lights x.universe v.moment → new ≡ packet_text (packet_with v.sender x f) ++ drop 638 out → new ≡ over c.sender (Some (Packet (packet_at c i))) out
packet_over v c i x f out new e lt is fe ne =
    let lt2 : i < length v.lines = rw e lt in
    let here : x ≡ line_at v i = get_or_read v.lines i x lt2 is no_line in
    let n2 : new ≡ packet_text (packet_with v.sender x (frame v.lights x.universe v.moment)) ++ drop 638 out = rw (← fe) ne in
    let n3 : new ≡ packet_text (packet_at v i) ++ drop (size (Packet (packet_at v i))) out = rw (packet_len v.sender v.lights v.moment (line_at v i), ← here) n2 in
    rw (← e) n3

pub packet_told : (v c : Core) (i : ℕ) (x : UniverseLine) (len : ℕ) → v ≡ c → i < length c.lines → x ≡ slice_index_or v.lines i x → len ≡ 638 → ◌≡◌ {A = DueDatagram} (record { len = len; universe = Some x.universe }) (due_datagram (Packet (packet_at c i)))
unfolding packet_with
packet_told v c i x len e lt is l =
    let lt2 : i < length v.lines = rw e lt in
    let here : x ≡ line_at v i = get_or_read v.lines i x lt2 is no_line in
    let its : x.universe ≡ (line_at c i).universe = ap (λ (y : UniverseLine). y.universe) here ∙ ap (λ (k : Core). (line_at k i).universe) e in
    let long : len ≡ size (Packet (packet_at c i)) = l ∙ sym (packet_len c.sender c.lights c.moment (line_at c i)) in
    λ j. record { len = long j; universe = Some (its j) }

-- ---- commands

kept_line : (t : ℕ) (k : Command) (o : play.Command) (l : UniverseLine) → player_command k ≡ Some o → line_after (Accepted t k) l ≡ l
unfolding line_after
kept_line t Go o l e = refl
kept_line t (GoTo n) o l e = refl
kept_line t (SetLevel c n) o l e = refl
kept_line t (Master m) o l e = refl
kept_line t (EndUniverse u) o l e = absurd (cc)
kept_line t (StartUniverse u) o l e = absurd (cc)

kept_lines : (t : ℕ) (k : Command) (o : play.Command) (xs : List UniverseLine) → player_command k ≡ Some o → map (line_after (Accepted t k)) xs ≡ xs
kept_lines t k o [] e = refl
kept_lines t k o (x ∷ xs) e = rw (kept_line t k o x e, kept_lines t k o xs e) refl

abbrev with_player : Core → Played → Core
with_player v p = record v { lights = record { patch = v.lights.patch; player = p } }

answer_is : (c : Core) (k : Command) (o : play.Command) (r : Option PlayFault) → player_command k ≡ Some o → refusal c.lights.player.cues c.lights.player.current o ≡ r → answer k c ≡ play_answer r
unfolding answer
answer_is c k o r e f = rw (e, f) refl

core_played : (c : Core) (k : Command) (o : play.Command) → player_command k ≡ Some o → with_player c (play.after c.moment o c.lights.player) ≡ after (Accepted c.moment k) c
unfolding after
core_played c k o e = rw (e, kept_lines c.moment k o c.lines e) refl

-- a command of the player that it accepts, and one that it refuses
pub light_accepted : (v c : Core) (k : Command) (o : play.Command) (p : Played) → v ≡ c → player_command k ≡ Some o → refusal v.lights.player.cues v.lights.player.current o ≡ None → p ≡ play.after v.moment o v.lights.player →
    (Ok tt ≡ answer k c) × (with_player v p ≡ taken k (answer k c) c)
light_accepted v c k o p e ke re pe =
    let is : answer k v ≡ Ok tt = answer_is v k o None ke re in
    rw (← e) (sym is, rw (is, pe) (core_played v k o ke))

pub light_refused : (v c : Core) (k : Command) (o : play.Command) (f : PlayFault) (p : Played) → v ≡ c → CoreOk v → player_command k ≡ Some o → refusal v.lights.player.cues v.lights.player.current o ≡ Some f → p ≡ moved v.moment v.lights.player →
    (Err (console_fault f) ≡ answer k c) × (with_player v p ≡ taken k (answer k c) c)
light_refused v c k o f p e ok ke re pe =
    let is : answer k v ≡ Err (console_fault f) = answer_is v k o (Some f) ke re in
    let stays : p ≡ v.lights.player = pe ∙ settled v.lights.player v.moment ok.clock in
    rw (← e) (sym is, rw (is, stays) refl)

-- a call of the player, whatever it answers
pub light_told : (v c : Core) (k : Command) (o : play.Command) (r : Result (Unit {0}) PlayFault) (p : Played) → v ≡ c → CoreOk v → player_command k ≡ Some o → p ≡ play.after v.moment o v.lights.player →
    OnOk r (refusal v.lights.player.cues v.lights.player.current o ≡ None) → IfErr r (λ f. refusal v.lights.player.cues v.lights.player.current o ≡ Some f) → OnErr r (p ≡ moved v.moment v.lights.player) →
    (console_answer r ≡ answer k c) × (with_player v p ≡ taken k (answer k c) c)
light_told v c k o (Ok x) p e ok ke pe accepted refused unchanged = light_accepted v c k o p e ke accepted pe
light_told v c k o (Err f) p e ok ke pe accepted refused unchanged = light_refused v c k o f p e ok ke refused unchanged

same_clock : (m t : ℕ) → m ≡ t → max m t ≡ t
same_clock m t e = omega (arith, e)

after_clock : (t : ℕ) (o : play.Command) (p : Played) → p.moment ≡ t → (play.after t o p).moment ≡ t
unfolding play.after
after_clock t o p e = same_clock p.moment t e

pub ok_played : (v : Core) (o : play.Command) (p : Played) → CoreOk v → p ≡ play.after v.moment o v.lights.player → CoreOk (with_player v p)
ok_played v o p ok pe = record {
  rising = ok.rising;
  universes = ok.universes;
  few = ok.few;
  listed = ok.listed;
  priority = ok.priority;
  clock = rw pe (after_clock v.moment o v.lights.player ok.clock);
  later = ok.later;
}

-- the clock moves
pub ok_moved : (v : Core) (now m : ℕ) (p : Played) → CoreOk v → p ≡ moved now v.lights.player → m ≡ max v.moment now → CoreOk (record { sender = v.sender; lines = v.lines; cycle = v.cycle; listed = v.listed; lights = record { patch = v.lights.patch; player = p }; moment = m })
ok_moved v now m p ok pe me = record {
  rising = ok.rising;
  universes = ok.universes;
  few = ok.few;
  listed = ok.listed;
  priority = ok.priority;
  clock = rw (pe, me, ok.clock) refl;
  later = ok.later;
}

-- the frame of the line at place i, as the program reads it
pub frame_read : (v c : Core) (i : ℕ) (x : UniverseLine) (f : List ℕ) → v ≡ c → i < length c.lines → x ≡ slice_index_or v.lines i x → f ≡ frame c.lights (line_at c i).universe c.moment → f ≡ frame v.lights x.universe v.moment
frame_read v c i x f e lt is fe =
    let lt2 : i < length v.lines = rw e lt in
    let here : x ≡ line_at v i = get_or_read v.lines i x lt2 is no_line in
    let fe2 : f ≡ frame v.lights (line_at v i).universe v.moment = rw e fe in
    fe2 ∙ ap (λ (l : UniverseLine). frame v.lights l.universe v.moment) (sym here)

pub ended_at : (c : Core) (u i : ℕ) → Rising (universes_of c.lines) → i < length c.lines → (line_at c i).universe ≡ u →
    record c { lines = slice_set c.lines i (line_in (Ending TERMINATIONS) (line_at c i)) } ≡ after (Accepted c.moment (EndUniverse u)) c
unfolding after line_after
ended_at c u i rising lt is =
    let g = one_changed (line_in (Ending TERMINATIONS)) c.lines i no_line rising lt in
    let g2 : slice_set c.lines i (line_in (Ending TERMINATIONS) (line_at c i)) ≡ map (changed u (line_in (Ending TERMINATIONS))) c.lines = g ∙ ap (λ (w : ℕ). map (changed w (line_in (Ending TERMINATIONS))) c.lines) is in
    ap (λ (ls : List UniverseLine). record c { lines = ls }) g2

pub started_at : (c : Core) (u i : ℕ) → Rising (universes_of c.lines) → i < length c.lines → (line_at c i).universe ≡ u →
    record c { lines = slice_set c.lines i (line_in (Running None) (line_at c i)) } ≡ after (Accepted c.moment (StartUniverse u)) c
unfolding after line_after
started_at c u i rising lt is =
    let g = one_changed (line_in (Running None)) c.lines i no_line rising lt in
    let g2 : slice_set c.lines i (line_in (Running None) (line_at c i)) ≡ map (changed u (line_in (Running None))) c.lines = g ∙ ap (λ (w : ℕ). map (changed w (line_in (Running None))) c.lines) is in
    ap (λ (ls : List UniverseLine). record c { lines = ls }) g2

-- a line that keeps its universe
pub ok_kept : (v : Core) (i : ℕ) (x : UniverseLine) (s : State) → CoreOk v → x ≡ slice_index_or v.lines i x → CoreOk (record v { lines = slice_set v.lines i (line_in s x) })
ok_kept v i x s ok is =
    let u : x.universe ≡ (get_or v.lines i x).universe = ap (λ (l : UniverseLine). l.universe) is in
    let same : universes_of (slice_set v.lines i (line_in s x)) ≡ universes_of v.lines = map-set_same (λ (l : UniverseLine). l.universe) v.lines i (line_in s x) x u in
    record {
      rising = rw same ok.rising;
      universes = rw same ok.universes;
      few = rw (length-set v.lines i (line_in s x)) ok.few;
      listed = ok.listed;
      priority = ok.priority;
      clock = ok.clock;
      later = ok.later;
    }

pub state_set : (v c : Core) (i : ℕ) (x : UniverseLine) (s : State) → v ≡ c → i < length c.lines → x ≡ slice_index_or v.lines i x →
    record v { lines = slice_set v.lines i (line_in s x) } ≡ record c { lines = slice_set c.lines i (line_in s (line_at c i)) }
state_set v c i x s e lt is =
    let lt2 : i < length v.lines = rw e lt in
    let here : x ≡ line_at v i = get_or_read v.lines i x lt2 is no_line in
    rw (← e) (ap (λ (l : UniverseLine). record v { lines = slice_set v.lines i (line_in s l) }) here)

pub unknown_answer : (c : Core) (u : ℕ) → find (is_of u) c.lines ≡ None → (answer (EndUniverse u) c ≡ Err fault.NoUniverse) × (answer (StartUniverse u) c ≡ Err fault.NoUniverse)
unfolding answer
unknown_answer c u e = (rw e refl, rw e refl)

pub known_answer : (c : Core) (u i : ℕ) → find (is_of u) c.lines ≡ Some (line_at c i) → (answer (EndUniverse u) c ≡ end_answer (line_at c i).state) × (answer (StartUniverse u) c ≡ start_answer (line_at c i).state)
unfolding answer
known_answer c u i e = (rw e refl, rw e refl)
