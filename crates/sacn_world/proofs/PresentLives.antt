-- What a console does in a world is what is due by the list of its present life.
use Rattle.std.proofs.Common.{get_or, ◌≡◌, ℕ, max, true, false, List, [], ◌∷◌, ◌++◌, length, Option, Some, None, Result, Ok, Err, refl, sym, ap, subst, ◌∙◌, slice_get}
use Rattle.std.specs.Prelude.{slice_set, ◌==◌, if◌then◌else◌}
use Rattle.std.proofs.lemmas.Bool.{eqb-true, eqb-false}
use Rattle.std.proofs.lemmas.Option.{same_Some, slice_get-map, none-some as none_some}
use Rattle.std.proofs.lemmas.List.{get_or_push}
use Rattle.sacn_packets.specs.declared.framing.packet.Packet.{Packet}
use Rattle.sacn_packets.specs.declared.framing.packet.Packet.TheVariants.{DataPacket, PagePacket, SyncPacket}
use Rattle.sacn_packets.specs.PacketReading.{reading_packet}
use Rattle.sacn_console.specs.declared.command.Command.{Command}
use Rattle.sacn_console.specs.declared.command.ConsoleFault.{ConsoleFault}
use Rattle.sacn_console.specs.Shows.{ShowContent}
use Rattle.sacn_console.specs.Lines as line
use Rattle.sacn_console.specs.Core as console
use Rattle.sacn_console.specs.Due.{Life, life_of, due_by_list, answer_by_list}
use Rattle.sacn_console.specs.Runs.{Call, Answer, Order, Poll, Ordered, Polled, answers, answers_by_list, core_by, deeds_after, with_order, with_datagram, StepsAreTheList}
use Rattle.sacn_node.specs.Readings.{Reading}
use Rattle.sacn_node.specs.Setup.{Port}
use Rattle.sacn_world.specs.declared.answer.Answer.TheVariants as answered
use Rattle.sacn_schedule.specs.declared.event.Event.{Event}
use Rattle.sacn_schedule.specs.declared.event.Event.TheVariants as event
use Rattle.sacn_world.specs.declared.fault.WorldFault.{WorldFault}
use Rattle.sacn_world.specs.Streams.{Sent}
use Rattle.sacn_world.specs.Nodes.{Node}
use Rattle.sacn_schedule.specs.Cids.{Desk}
use Rattle.sacn_world.specs.Worlds.{World, Console, Outcome, with_core, polled, order_step, poll_by, poll_step, new_life, restart_console, come, arrive, deliver_step, look_step, hear_noise, noise_step, restart_node, step, left_by, after, new_console, new_world}
use Rattle.sacn_world.specs.Laws.{reached}
use Rattle.sacn_world.specs.Lives.{calls_with, calls_in, first_with, first_in, moment_of, ConsolesDoWhatIsDue}
use Rattle.sacn_world.proofs.Runs.{mapped}
use Rattle.sacn_world.proofs.Changes.{set_same, set_other}

-- ---- the core after calls

core_run : console.Core → List Call → console.Core
core_run c [] = c
core_run c (Order now k ∷ calls) = core_run (console.after_command now k c) calls
core_run c (Poll now ∷ calls) = core_run (console.after_poll now c) calls

after_call : console.Core → Call → console.Core
after_call c (Order now k) = console.after_command now k c
after_call c (Poll now) = console.after_poll now c

run_more : (c : console.Core) (calls : List Call) (x : Call) → core_run c (calls ++ x ∷ []) ≡ after_call (core_run c calls) x
unfolding core_run after_call
run_more c [] (Order now k) = refl
run_more c [] (Poll now) = refl
run_more c (Order t k ∷ calls) x = run_more (console.after_command t k c) calls x
run_more c (Poll t ∷ calls) x = run_more (console.after_poll t c) calls x

-- ---- the answer to one more call

answer_to : console.Core → Call → Answer
answer_to c (Order now k) = Ordered (console.answer k (console.at now c))
answer_to c (Poll now) = Polled (console.due (console.at now c))

answer_listed : Life → ℕ → List line.Deed → Call → Answer
answer_listed life t ds (Order now k) = Ordered (answer_by_list life k ds)
answer_listed life t ds (Poll now) = Polled (due_by_list life (max t now) ds)

answers_more : (c : console.Core) (calls : List Call) (x : Call) → answers c (calls ++ x ∷ []) ≡ answers c calls ++ answer_to (core_run c calls) x ∷ []
unfolding core_run answer_to
answers_more c [] (Order now k) = refl
answers_more c [] (Poll now) = refl
answers_more c (Order t k ∷ calls) x = ap (λ zs. Ordered (console.answer k (console.at t c)) ∷ zs) (answers_more (console.after_command t k c) calls x)
answers_more c (Poll t ∷ calls) x = ap (λ zs. Polled (console.due (console.at t c)) ∷ zs) (answers_more (console.after_poll t c) calls x)

listed_more : (life : Life) (t : ℕ) (ds : List line.Deed) (calls : List Call) (x : Call) → answers_by_list life t ds (calls ++ x ∷ []) ≡ answers_by_list life t ds calls ++ answer_listed life (moment_of t calls) (deeds_after life t ds calls) x ∷ []
unfolding answer_listed
listed_more life t ds [] (Order now k) = refl
listed_more life t ds [] (Poll now) = refl
listed_more life t ds (Order now k ∷ calls) x =
    ap (λ zs. Ordered (answer_by_list life k ds) ∷ zs) (listed_more life (max t now) (with_order (max t now) k (answer_by_list life k ds) ds) calls x)
listed_more life t ds (Poll now ∷ calls) x =
    ap (λ zs. Polled (due_by_list life (max t now) ds) ∷ zs) (listed_more life (max t now) (with_datagram (max t now) (due_by_list life (max t now) ds) ds) calls x)

last_same : {X : Type 0} (xs ys : List X) (x y : X) → xs ≡ ys → xs ++ x ∷ [] ≡ ys ++ y ∷ [] → x ≡ y
last_same xs ys x y same' e =
    sym (get_or_push xs x x (length xs) refl) ∙ ap (λ zs. get_or zs (length xs) x) e ∙ get_or_push ys y x (length xs) (ap length (sym same'))

next_answer : StepsAreTheList → (life : Life) (calls : List Call) (x : Call) → answer_to (core_run (core_by life 0 []) calls) x ≡ answer_listed life (moment_of 0 calls) (deeds_after life 0 [] calls) x
next_answer law life calls x =
    last_same (answers (core_by life 0 []) calls) (answers_by_list life 0 [] calls) _ _ (law life calls)
    (sym (answers_more (core_by life 0 []) calls x) ∙ law life (calls ++ x ∷ []) ∙ listed_more life 0 [] calls x)

abbrev polled_in : Answer → Option line.Datagram
polled_in (Polled o) = o
polled_in (Ordered r) = None

abbrev ordered_in : Answer → Result (Unit {0}) ConsoleFault
ordered_in (Ordered r) = r
ordered_in (Polled o) = Ok tt

next_poll : StepsAreTheList → (life : Life) (calls : List Call) (m : ℕ) → console.due (console.at m (core_run (core_by life 0 []) calls)) ≡ due_by_list life (max (moment_of 0 calls) m) (deeds_after life 0 [] calls)
unfolding answer_to answer_listed
next_poll law life calls m = ap polled_in (next_answer law life calls (Poll m))

next_order : StepsAreTheList → (life : Life) (calls : List Call) (m : ℕ) (k : Command) → console.answer k (console.at m (core_run (core_by life 0 []) calls)) ≡ answer_by_list life k (deeds_after life 0 [] calls)
unfolding answer_to answer_listed
next_order law life calls m k = ap ordered_in (next_answer law life calls (Order m k))

-- ---- a console of a world

record Lives (show : ShowContent) (first : ℕ) (calls : List Call) (c : Console) : Type 0 where
  same_show : c.show ≡ show
  core : c.core ≡ core_run (core_by (life_of show first) 0 []) calls

abbrev LivesAt : World → ℕ → ShowContent → ℕ → List Call → Type 0
LivesAt w i show first calls = (c : Console) → slice_get w.consoles i ≡ Some c → Lives show first calls c

module _ (w : World) (i : ℕ) (show : ShowContent) (first : ℕ) (calls : List Call) (l : LivesAt w i show first calls) where
  written : (y : Console) (f : ℕ) (cs : List Call) → Lives show f cs y → (c : Console) → slice_get (slice_set w.consoles i y) i ≡ Some c → Lives show f cs c
  written y f cs h c e = subst (Lives show f cs) (set_same w.consoles i y c e) h

  other : (j : ℕ) (y : Console) → (j ≡ i → ⊥) → (c : Console) → slice_get (slice_set w.consoles j y) i ≡ Some c → Lives show first calls c
  other j y ne c e = l c (sym (set_other w.consoles i j y ne) ∙ e)

  ordered_here : (m : ℕ) (k : Command) (o : Option Console) → slice_get w.consoles i ≡ o → LivesAt (left_by w (order_step w i m k o)) i show first (calls ++ Order m k ∷ [])
  unfolding after_call
  ordered_here m k None e = λ c ec. absurd (none_some c (sym e ∙ ec))
  ordered_here m k (Some d) e =
      let h = l d e in
      written (with_core d (console.after_command m k d.core)) first (calls ++ Order m k ∷ []) (record { same_show = h.same_show; core = ap (console.after_command m k) h.core ∙ sym (run_more (core_by (life_of show first) 0 []) calls (Order m k)) })

  ordered_there : (j m : ℕ) (k : Command) (o : Option Console) → (j ≡ i → ⊥) → LivesAt (left_by w (order_step w j m k o)) i show first calls
  ordered_there j m k None ne = l
  ordered_there j m k (Some d) ne = other j _ ne

  polled_lives : (m : ℕ) (d : Console) → slice_get w.consoles i ≡ Some d → Lives show first (calls ++ Poll m ∷ []) (polled m d)
  unfolding after_call
  polled_lives m d e =
      let h = l d e in
      record { same_show = h.same_show; core = ap (console.after_poll m) h.core ∙ sym (run_more (core_by (life_of show first) 0 []) calls (Poll m)) }

  polled_by : (m : ℕ) (d : Console) → slice_get w.consoles i ≡ Some d → (o : Option line.Datagram) → LivesAt (poll_by w i m d o).world i show first (calls ++ Poll m ∷ [])
  polled_by m d e None = written (polled m d) first (calls ++ Poll m ∷ []) (polled_lives m d e)
  polled_by m d e (Some y) = written (polled m d) first (calls ++ Poll m ∷ []) (polled_lives m d e)

  polled_here : (m : ℕ) (o : Option Console) → slice_get w.consoles i ≡ o → LivesAt (left_by w (poll_step w i m o)) i show first (calls ++ Poll m ∷ [])
  polled_here m None e = λ c ec. absurd (none_some c (sym e ∙ ec))
  polled_here m (Some d) e = polled_by m d e _

  other_polled : (j m : ℕ) (d : Console) (o : Option line.Datagram) → (j ≡ i → ⊥) → LivesAt (poll_by w j m d o).world i show first calls
  other_polled j m d None ne = other j _ ne
  other_polled j m d (Some y) ne = other j _ ne

  polled_there : (j m : ℕ) (o : Option Console) → (j ≡ i → ⊥) → LivesAt (left_by w (poll_step w j m o)) i show first calls
  polled_there j m None ne = l
  polled_there j m (Some d) ne = other_polled j m d _ ne

  begun_here : (f : ℕ) (o : Option Console) → slice_get w.consoles i ≡ o → LivesAt (left_by w (restart_console w i f o)) i show f []
  unfolding core_run
  begun_here f None e = λ c ec. absurd (none_some c (sym e ∙ ec))
  begun_here f (Some d) e = let h = l d e in written (new_life d.show _ f) f [] (record { same_show = h.same_show; core = ap (λ s. core_by (life_of s f) 0 []) h.same_show })

  begun_there : (j f : ℕ) (o : Option Console) → (j ≡ i → ⊥) → LivesAt (left_by w (restart_console w j f o)) i show first calls
  begun_there j f None ne = l
  begun_there j f (Some d) ne = other j _ ne

  come_lives : (j m : ℕ) (n : Node) (s : List ℕ) (u q : ℕ) (f : Option WorldFault) → LivesAt (left_by w (come w j m n s u q f)) i show first calls
  come_lives j m n s u q (Some f) = l
  come_lives j m n s u q None = l

  arrive_lives : (k j m : ℕ) (n : Node) (s : List ℕ) (p : Packet) → LivesAt (left_by w (arrive w k j m n s p)) i show first calls
  arrive_lives k j m n s (DataPacket d) = come_lives j m n s d.universe _ _
  arrive_lives k j m n s (PagePacket p) = l
  arrive_lives k j m n s SyncPacket = l

  deliver_lives : (k j m : ℕ) (on : Option Node) (ox : Option Sent) → LivesAt (left_by w (deliver_step w k j m on ox)) i show first calls
  deliver_lives k j m None ox = l
  deliver_lives k j m (Some n) None = l
  deliver_lives k j m (Some n) (Some x) = arrive_lives k j m n x.source x.packet

  look_lives : (j port m : ℕ) (on : Option Node) → LivesAt (left_by w (look_step w j port m on)) i show first calls
  look_lives j port m None = l
  look_lives j port m (Some n) = l

  heard_lives : (j m : ℕ) (n : Node) (r : Reading) → LivesAt (left_by w (hear_noise w j m n r)) i show first calls
  heard_lives j m n (Ok p) = l
  heard_lives j m n (Err f) = l

  noise_lives : (j m : ℕ) (r : Reading) (on : Option Node) → LivesAt (left_by w (noise_step w j m r on)) i show first calls
  noise_lives j m r None = l
  noise_lives j m r (Some n) = heard_lives j m n r

  anew_lives : (j : ℕ) (on : Option Node) → LivesAt (left_by w (restart_node w j on)) i show first calls
  anew_lives j None = l
  anew_lives j (Some n) = l

  step_lives : (e : Event) → LivesAt (left_by w (step w e)) i show (first_with i e first) (calls_with i e calls)
  unfolding step
  step_lives (event.Order j m k) =
      elim (j == i) as (λ b. (j == i) ≡ b → LivesAt (left_by w (order_step w j m k (slice_get w.consoles j))) i show first (if b then calls ++ Order m k ∷ [] else calls)) [
        | true ↦ λ e. subst (λ z. LivesAt (left_by w (order_step w z m k (slice_get w.consoles z))) i show first (calls ++ Order m k ∷ [])) (sym (eqb-true j i e)) (ordered_here m k (slice_get w.consoles i) refl)
        | false ↦ λ e. ordered_there j m k (slice_get w.consoles j) (eqb-false j i e)
      ] refl
  step_lives (event.Poll j m) =
      elim (j == i) as (λ b. (j == i) ≡ b → LivesAt (left_by w (poll_step w j m (slice_get w.consoles j))) i show first (if b then calls ++ Poll m ∷ [] else calls)) [
        | true ↦ λ e. subst (λ z. LivesAt (left_by w (poll_step w z m (slice_get w.consoles z))) i show first (calls ++ Poll m ∷ [])) (sym (eqb-true j i e)) (polled_here m (slice_get w.consoles i) refl)
        | false ↦ λ e. polled_there j m (slice_get w.consoles j) (eqb-false j i e)
      ] refl
  step_lives (event.Deliver k j m) = deliver_lives k j m (slice_get w.nodes j) (slice_get w.sent k)
  step_lives (event.Look j port m) = look_lives j port m (slice_get w.nodes j)
  step_lives (event.RestartConsole j f) =
      elim (j == i) as (λ b. (j == i) ≡ b → LivesAt (left_by w (restart_console w j f (slice_get w.consoles j))) i show (if b then f else first) (if b then [] else calls)) [
        | true ↦ λ e. subst (λ z. LivesAt (left_by w (restart_console w z f (slice_get w.consoles z))) i show f []) (sym (eqb-true j i e)) (begun_here f (slice_get w.consoles i) refl)
        | false ↦ λ e. begun_there j f (slice_get w.consoles j) (eqb-false j i e)
      ] refl
  step_lives (event.RestartNode j) = anew_lives j (slice_get w.nodes j)
  step_lives (event.Noise j m octets) = noise_lives j m (reading_packet octets.items) (slice_get w.nodes j)

after_lives : (w : World) (i : ℕ) (show : ShowContent) (first : ℕ) (calls : List Call) (es : List Event) → LivesAt w i show first calls → LivesAt (after w es) i show (first_in i es first) (calls_in i es calls)
after_lives w i show first calls [] l = l
after_lives w i show first calls (e ∷ es) l = after_lives (left_by w (step w e)) i show (first_with i e first) (calls_with i e calls) es (step_lives w i show first calls l e)

start_lives : (shows : List Desk) (setups : List (List Port)) (i : ℕ) (desk : Desk) → slice_get shows i ≡ Some desk → LivesAt (new_world shows setups) i desk.0 desk.1 []
unfolding core_run
start_lives shows setups i desk e c ec =
    let a = mapped new_console (slice_get shows i) c (sym (slice_get-map new_console shows i) ∙ ec) in
    let d : a.0 ≡ desk = same_Some _ _ (sym a.1 ∙ e) in
    subst (Lives desk.0 desk.1 []) a.2 (subst (λ (z : Desk). Lives z.0 z.1 [] (new_console a.0)) d (record { same_show = refl; core = refl }))

order_answer : (w : World) (i m : ℕ) (k : Command) (c : Console) (o : Outcome) → order_step w i m k (Some c) ≡ Ok o → o.answer ≡ answered.Ordered (console.answer k (console.at m c.core))
order_answer w i m k c o e = cc

pub what_is_due : StepsAreTheList → ConsolesDoWhatIsDue
unfolding step
what_is_due law shows setups events i desk c ed ec =
    let w = reached shows setups events in
    let life = life_of desk.0 (first_in i events desk.1) in
    let calls = calls_in i events [] in
    let h = after_lives (new_world shows setups) i desk.0 desk.1 [] events (start_lives shows setups i desk ed) c ec in
    record {
      polls = λ m. ap (poll_step w i m) ec ∙ ap (λ o. Ok (poll_by w i m c o)) (ap (λ core. console.due (console.at m core)) h.core ∙ next_poll law life calls m);
      orders = λ m k o e. order_answer w i m k c o (sym (ap (order_step w i m k) ec) ∙ e) ∙ ap answered.Ordered (ap (λ core. console.answer k (console.at m core)) h.core ∙ next_order law life calls m k);
    }
