-- Worlds that runs come to, and the answers of a run, event by event.
use Rattle.std.proofs.Common.{get_or, ◌≡◌, ℕ, zero, suc, ◌+◌, ◌<◌, true, List, [], ◌∷◌, map, take, length, Option, Some, None, Ok, Err, refl, sym, ap, subst, ◌∙◌, inl, arith, slice_get}
use Rattle.std.specs.Prelude.{option_map}
use Rattle.std.proofs.lemmas.Option.{same_Some, slice_get-map}
use Rattle.sacn_packets.specs.Data.{Data}
use Rattle.sacn_packets.specs.declared.framing.packet.Packet.{Packet}
use Rattle.sacn_packets.specs.declared.framing.packet.Packet.TheVariants.{DataPacket, PagePacket, SyncPacket}
use Rattle.sacn_schedule.specs.declared.event.Event.{Event}
use Rattle.sacn_schedule.specs.declared.event.Event.TheVariants.{Deliver}
use Rattle.sacn_world.specs.declared.fault.WorldFault.{WorldFault}
use Rattle.sacn_world.specs.Streams.{Sent, at, stream_of, place_of, is_live, priority, levels, priority_in, levels_in}
use Rattle.sacn_world.specs.Holdings.{Hold}
use Rattle.sacn_world.specs.RowsOfPlaces.{shown_by, seen}
use Rattle.sacn_world.specs.Nodes.{Node}
use Rattle.sacn_schedule.specs.Cids.{Desk, HaveOwnCids}
use Rattle.sacn_world.specs.Worlds.{World, Outcome, Step, step, left_by, after, come, arrive, deliver_step, new_console, new_world, Apart, place_on, hold_in, held_at}
use Rattle.sacn_world.specs.Runs.{Ran, answered_first, first_then, ran}
use Rattle.sacn_world.specs.Counts.{Count, count_run, no_count, Shows}
use Rattle.sacn_sources.specs.Order.{same}
use Rattle.sacn_world.specs.Laws.{reached}
use Rattle.sacn_world.specs.RunLaws.{OwnCidsKeepConsolesApart, ReachedWorldsKeepTheirInvariant, AnsweredAt, RunsAnswerStepByStep, ListsOfEventsJoin, HoldsLive, TwentyOneInARowAreHeld}
use Rattle.sacn_world.proofs.Sources.{same_source}
use Rattle.sacn_world.proofs.Looks.{found_passes}
use Rattle.sacn_schedule.proofs.OwnCids.{tested}
use Rattle.sacn_world.proofs.Beginning.{consoles_apart}
use Rattle.sacn_world.proofs.Runs.{after_ok, start_ok}
use Rattle.sacn_world.proofs.Sending.{place_is}
use Rattle.sacn_world.proofs.Counts.{CountWorld, counts_ok, start_count, at_twenty_one, own_stream}

-- ---- consoles of their own

there : {X : Type 0} (xs : List X) (i : ℕ) (d : X) → i < length xs → slice_get xs i ≡ Some (get_or xs i d)
there [] i d lt = absurd (omega (arith, lt))
there (x ∷ xs) zero d lt = refl
there (x ∷ xs) (suc i) d lt = there xs i d (omega (arith, lt))

own_back : (shows : List Desk) → Apart (map new_console shows) → HaveOwnCids shows
own_back shows apart i j d less inside same =
    let a = get_or shows i d in
    let b = get_or shows j d in
    let ea = slice_get-map new_console shows i ∙ ap (option_map new_console) (there shows i d (omega arith)) in
    let eb = slice_get-map new_console shows j ∙ ap (option_map new_console) (there shows j d inside) in
    let is = apart i j (new_console a) (new_console b) ea eb same in
    omega (arith, is, less)

pub own_cids_apart : OwnCidsKeepConsolesApart
own_cids_apart shows = (λ own. consoles_apart shows (tested shows own), own_back shows)

pub reached_ok : ReachedWorldsKeepTheirInvariant
reached_ok shows setups events apart = after_ok (new_world shows setups) (start_ok shows setups apart) events

pub joined : ListsOfEventsJoin
joined w [] fs = refl
joined w (e ∷ es) fs = joined (left_by w (step w e)) es fs

-- ---- the answers of a run

pub record First (w : World) (e : Event) (es : List Event) (r : Ran) : Type 0 where
  pub outcome : Outcome
  pub is_outcome : step w e ≡ Ok outcome
  pub rest : Ran
  pub is_rest : ran outcome.world es ≡ Some rest
  pub answers : outcome.answer ∷ rest.answers ≡ r.answers
  pub world : rest.world ≡ r.world

first_by : (w : World) (e : Event) (es : List Event) (r : Ran) (t : Step) → step w e ≡ t → first_then t (λ v. ran v es) ≡ Some r → First w e es r
first_by w e es r (Err f) is h = absurd (cc)
first_by w e es r (Ok o) is h =
    elim (ran o.world es) as (λ q. ran o.world es ≡ q → answered_first o.answer q ≡ Some r → First w e es r) [
      | None ↦ λ a b. absurd (cc)
      | Some q ↦ λ a b. record { outcome = o; is_outcome = is; rest = q; is_rest = a; answers = ap (λ (x : Ran). x.answers) (same_Some _ _ b); world = ap (λ (x : Ran). x.world) (same_Some _ _ b) }
    ] refl h

pub first_of_run : (w : World) (e : Event) (es : List Event) (r : Ran) → ran w (e ∷ es) ≡ Some r → First w e es r
first_of_run w e es r h = first_by w e es r (step w e) refl h

pub each_answered : (w : World) (events : List Event) (r : Ran) (i : ℕ) (e : Event) → ran w events ≡ Some r → slice_get events i ≡ Some e → AnsweredAt w events r.answers i e
each_answered w [] r i e h g = absurd (cc)
each_answered w (d ∷ es) r zero e h g =
    let f = first_of_run w d es r h in
    let de = same_Some d e g in
    let left : f.outcome.world ≡ left_by w (step w d) = sym (ap (left_by w) f.is_outcome) in
    record {
      answer = f.outcome.answer;
      is_answer = ap (λ xs. slice_get xs 0) (sym f.answers);
      stepped = ap (step w) (sym de) ∙ f.is_outcome ∙ (λ j. Ok (record { answer = f.outcome.answer; world = left j }));
    }
each_answered w (d ∷ es) r (suc i) e h g =
    let f = first_of_run w d es r h in
    let a = each_answered f.outcome.world es f.rest i e f.is_rest g in
    let left : f.outcome.world ≡ left_by w (step w d) = sym (ap (left_by w) f.is_outcome) in
    let more : suc i + 1 ≡ suc (i + 1) = omega arith in
    record {
      answer = a.answer;
      is_answer = ap (λ xs. slice_get xs (suc i)) (sym f.answers) ∙ a.is_answer;
      stepped =
          subst (λ v. step (after v (take i es)) e ≡ Ok (record { answer = a.answer; world = after v (take (i + 1) es) })) left a.stepped
          ∙ ap (λ k. Ok (record { answer = a.answer; world = after w (take k (d ∷ es)) })) (sym more);
    }

count_answers : (w : World) (events : List Event) (r : Ran) → ran w events ≡ Some r → length r.answers ≡ length events
count_answers w [] r h = ap (λ (x : Ran). length x.answers) (sym (same_Some _ _ h))
count_answers w (d ∷ es) r h =
    let f = first_of_run w d es r h in
    let n = count_answers f.outcome.world es f.rest f.is_rest in
    let l : suc (length f.rest.answers) ≡ length r.answers = ap length f.answers in
    sym l ∙ ap suc n

pub run_answers : RunsAnswerStepByStep
run_answers = record { each = each_answered; count = count_answers }

-- ---- what a delivery leaves of the history

come_sent : (w : World) (i m : ℕ) (n : Node) (s : List ℕ) (u q : ℕ) (f : Option WorldFault) → (left_by w (come w i m n s u q f)).sent ≡ w.sent
come_sent w i m n s u q (Some f) = refl
come_sent w i m n s u q None = refl

arrive_sent : (w : World) (k i m : ℕ) (n : Node) (s : List ℕ) (p : Packet) → (left_by w (arrive w k i m n s p)).sent ≡ w.sent
arrive_sent w k i m n s (DataPacket d) = come_sent w i m n s d.universe _ _
arrive_sent w k i m n s (PagePacket p) = refl
arrive_sent w k i m n s SyncPacket = refl

deliver_sent : (w : World) (k i m : ℕ) (on : Option Node) (ox : Option Sent) → (left_by w (deliver_step w k i m on ox)).sent ≡ w.sent
deliver_sent w k i m None ox = refl
deliver_sent w k i m (Some n) None = refl
deliver_sent w k i m (Some n) (Some x) = arrive_sent w k i m n x.source x.packet

pub sent_stays : (w : World) (k i m : ℕ) (o : Outcome) → step w (Deliver k i m) ≡ Ok o → o.world.sent ≡ w.sent
unfolding step
sent_stays w k i m o e = sym (ap (λ s. (left_by w s).sent) e) ∙ deliver_sent w k i m (slice_get w.nodes i) (slice_get w.sent k)

-- ---- catch-up from any world of a run

-- a live packet as a layer
pub live_layer : (x : Sent) (d : Data) → x.packet ≡ DataPacket d → is_live x ≡ true → shown_by (is_live x) (priority x) (levels x) ≡ Some (record { priority = d.priority; levels = d.slots })
unfolding priority levels
live_layer x d is live = ap (λ b. shown_by b (priority_in x.packet) (levels_in x.packet)) live ∙ (λ j. Some (record { priority = priority_in (is j); levels = levels_in (is j) }))

shows_live : (w v : World) (i : ℕ) (s : List ℕ) (u q k : ℕ) (x : Sent) (d : Data) → v.sent ≡ w.sent → slice_get w.sent k ≡ Some x → x.source ≡ s → x.packet ≡ DataPacket d → d.universe ≡ u → place_of s u k w.sent ≡ q → Shows v i s u q → HoldsLive v i s u q d
shows_live w v i s u q k x d same_sent ex es ed eu eq h =
    let is : held_at i s u v ≡ Some h.hold = ap (hold_in s u) h.is_node ∙ ap (place_on s) h.is_holding ∙ h.is_hold in
    let own : at (stream_of s u w.sent) q ≡ x = subst (λ z. at (stream_of z u w.sent) q ≡ x) es (subst (λ z. at (stream_of x.source z w.sent) q ≡ x) eu
    (subst (λ z. at (stream_of x.source d.universe w.sent) z ≡ x) (subst (λ z. place_of z d.universe k w.sent ≡ q) (sym es) (subst (λ z. place_of s z k w.sent ≡ q) (sym eu) eq)) (place_is x.source d.universe w.sent k x ex (own_stream x d ed)))) in
    let source : s ≡ h.hold.source = same_source s h.hold.source (found_passes (λ (y : Hold). same s y.source) h.holding.held h.hold h.is_hold) in
    let here : at (stream_of h.hold.source u v.sent) h.hold.place ≡ x = ap (λ z. at (stream_of z u v.sent) h.hold.place) (sym source) ∙ ap (λ z. at (stream_of s u v.sent) z) h.place ∙ ap (λ z. at (stream_of s u z) q) same_sent ∙ own in
    let live : is_live x ≡ true = ap is_live (sym own) ∙ ap (λ z. is_live (at (stream_of s u z) q)) (sym same_sent) ∙ h.live in
    record {
      place = ap (option_map (λ (y : Hold). y.place)) is ∙ ap Some h.place;
      row = seen u v.sent h.hold;
      held = ap (option_map (seen u v.sent)) is;
      live = ap (λ (y : Sent). shown_by (is_live y) (priority y) (levels y)) here ∙ live_layer x d ed live;
    }

fresh_count : (w : World) (i : ℕ) (s : List ℕ) (u : ℕ) (c : Count) → CountWorld w i s u c → CountWorld w i s u no_count
fresh_count w i s u c k n e g f = record { sorted = (k n e g f).sorted; count = inl refl }

pub held_at_twenty_one : TwentyOneInARowAreHeld
held_at_twenty_one shows setups before since i k m n g x d o apart en ex ed eg eo big =
    let w0 = new_world shows setups in
    let w = reached shows setups before in
    let v = after w since in
    let s = x.source in
    let u = d.universe in
    let ok = reached_ok shows setups before apart in
    let zero' : CountWorld w i s u no_count = fresh_count w i s u _ (counts_ok w0 i s u no_count before (start_ok shows setups apart) (start_count shows setups i s u)) in
    let shown = at_twenty_one v (after_ok w ok since) i k m (count_run w i s u since no_count) n g x d o (counts_ok w i s u no_count since ok zero') en ex ed eg eo big in
    shows_live v o.world i s u (place_of s u k v.sent) k x d (sent_stays v k i m o eo) ex refl ed refl refl shown
