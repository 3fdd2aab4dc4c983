-- A world accepts exactly the lists of admissible events.
use Rattle.std.proofs.Common.{◌↔◌, ◌≡◌, ℕ, zero, suc, ◌+◌, ◌<◌, ◌≤◌, true, false, List, [], ◌∷◌, take, length, Option, Some, None, Ok, Err, refl, sym, ap, subst, ◌∙◌, inl, inr, arith, slice_get}
use Rattle.std.specs.Prelude.{nat_le, if◌then◌else◌}
use Rattle.std.proofs.lemmas.Bool.{cases_Bool, and_parts, and_from, eqb-true, eq-eqb, ltb-true, leb-true, leb-false, ltb-false, cases_lt}
use Rattle.std.proofs.lemmas.Option.{same_Some, slice_get_within, none-some as none_some}
use Rattle.sacn_packets.specs.Data.{Data}
use Rattle.sacn_packets.specs.declared.framing.packet.Packet.{Packet}
use Rattle.sacn_packets.specs.declared.framing.packet.Packet.TheVariants.{DataPacket, PagePacket, SyncPacket}
use Rattle.sacn_packets.specs.PacketReading.{reading_packet}
use Rattle.sacn_node.specs.Readings.{Reading}
use Rattle.sacn_node.specs.Setup.{Port}
use Rattle.sacn_schedule.specs.declared.event.Event.{Event}
use Rattle.sacn_schedule.specs.declared.event.Event.TheVariants.{Order, Poll, Deliver, Look, RestartConsole, RestartNode, Noise}
use Rattle.sacn_world.specs.declared.fault.WorldFault.{WorldFault}
use Rattle.sacn_world.specs.declared.fault.WorldFault.TheVariants.{TooFarBehind, OldLife}
use Rattle.sacn_world.specs.Streams.{Sent, life_at, stream_of, place_of}
use Rattle.sacn_world.specs.Holdings.{newest, is_old_life, is_too_far_behind, refusal_at, refusal}
use Rattle.sacn_world.specs.Nodes.{Node}
use Rattle.sacn_schedule.specs.Cids.{Desk}
use Rattle.sacn_world.specs.Invariants.{IsAccepted}
use Rattle.sacn_world.specs.Worlds.{World, Step, order_step, poll_step, restart_console, come, arrive, deliver_step, look_step, hear_noise, noise_step, restart_node, step, left_by, after, new_world}
use Rattle.sacn_world.specs.Runs.{Ran, answered_first, first_then, ran}
use Rattle.sacn_world.specs.Laws.{reached}
use Rattle.sacn_world.specs.Newest.{greatest, delivered_in}
use Rattle.sacn_world.specs.Admissible.{MayCome, MayBeDelivered, IsAdmissible, AreAdmissible}
use Rattle.sacn_world.proofs.NewestPlaces.{greatest_delivered}
use Rattle.sacn_world.proofs.Reaching.{each_answered}

-- ---- runs are accepted event by event

AllAccepted : World → List Event → Type 0
AllAccepted w events = (j : ℕ) (e : Event) → slice_get events j ≡ Some e → IsAccepted (step (after w (take j events)) e)

run_by : (w : World) (events : List Event) → AllAccepted w events → (r : Ran) × (ran w events ≡ Some r)
unfolding AllAccepted
run_by w [] all = (record { answers = []; world = w }, refl)
run_by w (e ∷ es) all =
    let o = all 0 e refl in
    let left : left_by w (step w e) ≡ o.0.world = ap (left_by w) o.1 in
    let rest = run_by o.0.world es (λ j d ed. subst (λ (v : World). IsAccepted (step (after v (take j es)) d)) left (all (suc j) d ed)) in
    (record { answers = o.0.answer ∷ rest.0.answers; world = rest.0.world }, ap (λ t. first_then t (λ v. ran v es)) o.1 ∙ ap (answered_first o.0.answer) rest.1)

by_run : (w : World) (events : List Event) (r : Ran) → ran w events ≡ Some r → AllAccepted w events
unfolding AllAccepted
by_run w events r is j e ee = let a = each_answered w events r j e is ee in (record { answer = a.answer; world = after w (take (j + 1) events) }, a.stepped)

-- ---- consoles and nodes that are there

some_at : {X : Type 0} (xs : List X) (i : ℕ) → i < length xs → (x : X) × (slice_get xs i ≡ Some x)
some_at [] i lt = absurd (omega (arith, lt))
some_at (x ∷ xs) zero lt = (x, refl)
some_at (x ∷ xs) (suc i) lt = some_at xs i (omega (arith, lt))

-- a step that goes on exactly where the element is there
module _ {X : Type 0} (xs : List X) (i : ℕ) (f : Option X → Step) (none : IsAccepted (f None) → ⊥) where
  is_there : IsAccepted (f (slice_get xs i)) → i < length xs
  is_there acc = by (slice_get xs i) refl acc
    where
      by : (o : Option X) → slice_get xs i ≡ o → IsAccepted (f o) → i < length xs
      by None e a = absurd (none a)
      by (Some x) e a = slice_get_within xs i x e

  goes_on : ((x : X) → slice_get xs i ≡ Some x → IsAccepted (f (Some x))) → i < length xs → IsAccepted (f (slice_get xs i))
  goes_on some lt = let x = some_at xs i lt in subst (λ o. IsAccepted (f o)) (sym x.1) (some x.0 x.1)

-- ---- the newest delivered

behind_from : (st : List Sent) (n q : ℕ) → refusal_at st n q ≡ None → (life_at st n ≤ life_at st q) × (life_at st q ≡ life_at st n → n < q + 20)
behind_from st n q e =
    elim (is_too_far_behind st n q) as (λ b. is_too_far_behind st n q ≡ b → (if b then Some TooFarBehind else (if is_old_life st n q then Some OldLife else None)) ≡ None → (life_at st n ≤ life_at st q) × (life_at st q ≡ life_at st n → n < q + 20)) [
      | true ↦ λ a f. absurd (cc)
      | false ↦ λ a f.
          elim (is_old_life st n q) as (λ b. is_old_life st n q ≡ b → (if b then Some OldLife else None) ≡ None → (life_at st n ≤ life_at st q) × (life_at st q ≡ life_at st n → n < q + 20)) [
            | true ↦ λ b g. absurd (cc)
            | false ↦ λ b g. (
              ltb-false (life_at st q) (life_at st n) b,
              λ same'. elim (cases_lt n (q + 20)) [
                | inl lt ↦ lt
                | inr ge ↦ absurd (let both : is_too_far_behind st n q ≡ true = and_from _ _ (eq-eqb _ _ same') (le_true (q + 20) n ge) in cc)
              ],
            )
          ] refl f
    ] refl e
  where
    le_true : (a b : ℕ) → a ≤ b → nat_le a b ≡ true
    le_true a b le = elim (cases_Bool (nat_le a b)) [ inl pass ↦ pass | inr fail ↦ absurd (let lt = leb-false a b fail in omega (arith, lt, le)) ]

from_behind : (st : List Sent) (n q : ℕ) → life_at st n ≤ life_at st q → (life_at st q ≡ life_at st n → n < q + 20) → refusal_at st n q ≡ None
from_behind st n q ahead near =
    let a : is_too_far_behind st n q ≡ false = elim (cases_Bool (is_too_far_behind st n q)) [
      | inl pass ↦ absurd (let p = and_parts _ _ pass in let lt = near (eqb-true _ _ p.0) in let le = leb-true (q + 20) n p.1 in omega (arith, lt, le))
      | inr fail ↦ fail
    ] in
    let b : is_old_life st n q ≡ false = elim (cases_Bool (is_old_life st n q)) [
      | inl pass ↦ absurd (let lt = ltb-true _ _ pass in omega (arith, lt, ahead))
      | inr fail ↦ fail
    ] in
    ap (λ c. if c then Some TooFarBehind else (if is_old_life st n q then Some OldLife else None)) a ∙ ap (λ c. if c then Some OldLife else None) b

may_come : (st : List Sent) (ps : List ℕ) (o : Option ℕ) (q : ℕ) → o ≡ greatest ps → refusal st o q ≡ None → MayCome st ps q
may_come st ps None q is e n en = absurd (none_some n (is ∙ en))
may_come st ps (Some l) q is e n en = subst (λ z. (life_at st z ≤ life_at st q) × (life_at st q ≡ life_at st z → z < q + 20)) (same_Some l n (is ∙ en)) (behind_from st l q e)

not_refused : (st : List Sent) (ps : List ℕ) (o : Option ℕ) (q : ℕ) → o ≡ greatest ps → MayCome st ps q → refusal st o q ≡ None
not_refused st ps None q is may = refl
not_refused st ps (Some l) q is may = let m = may l (sym is) in from_behind st l q m.0 m.1

-- ---- a delivery

module _ (w : World) (i k m : ℕ) (delivered : List ℕ → ℕ → List ℕ) (newest_is : (n : Node) → slice_get w.nodes i ≡ Some n → (s : List ℕ) (u : ℕ) → newest s u n.delivered ≡ greatest (delivered s u)) where
  come_by : (n : Node) (s : List ℕ) (u q : ℕ) (f : Option WorldFault) → IsAccepted (come w i m n s u q f) → f ≡ None
  come_by n s u q (Some f) acc = absurd (let bad = acc.1 in cc)
  come_by n s u q None acc = refl

  in_time_by : (n : Node) → slice_get w.nodes i ≡ Some n → (s : List ℕ) (p : Packet) → IsAccepted (arrive w k i m n s p) → (d : Data) → p ≡ DataPacket d → MayCome (stream_of s d.universe w.sent) (delivered s d.universe) (place_of s d.universe k w.sent)
  in_time_by n en s (DataPacket y) acc d is =
      let yd : y ≡ d = cc in
      subst (λ (z : Data). MayCome (stream_of s z.universe w.sent) (delivered s z.universe) (place_of s z.universe k w.sent)) yd
      (may_come (stream_of s y.universe w.sent) (delivered s y.universe) (newest s y.universe n.delivered) (place_of s y.universe k w.sent) (newest_is n en s y.universe) (come_by n s y.universe _ _ acc))
  in_time_by n en s (PagePacket p) acc d is = absurd (cc)
  in_time_by n en s SyncPacket acc d is = absurd (cc)

  delivered_by_step : (on : Option Node) (ox : Option Sent) → slice_get w.nodes i ≡ on → slice_get w.sent k ≡ ox → IsAccepted (deliver_step w k i m on ox) → MayBeDelivered w delivered k i
  delivered_by_step None ox en ex acc = absurd (let bad = acc.1 in cc)
  delivered_by_step (Some n) None en ex acc = absurd (let bad = acc.1 in cc)
  delivered_by_step (Some n) (Some x) en ex acc = record { node = slice_get_within w.nodes i n en; datagram = x; is_datagram = ex; in_time = in_time_by n en x.source x.packet acc }

  arrives : (n : Node) → slice_get w.nodes i ≡ Some n → (s : List ℕ) (p : Packet) → ((d : Data) → p ≡ DataPacket d → MayCome (stream_of s d.universe w.sent) (delivered s d.universe) (place_of s d.universe k w.sent)) → IsAccepted (arrive w k i m n s p)
  arrives n en s (DataPacket d) may =
      let e = not_refused (stream_of s d.universe w.sent) (delivered s d.universe) (newest s d.universe n.delivered) (place_of s d.universe k w.sent) (newest_is n en s d.universe) (may d refl) in
      subst (λ f. IsAccepted (come w i m n s d.universe (place_of s d.universe k w.sent) f)) (sym e) (_, refl)
  arrives n en s (PagePacket p) may = (_, refl)
  arrives n en s SyncPacket may = (_, refl)

  step_of_delivered : MayBeDelivered w delivered k i → IsAccepted (deliver_step w k i m (slice_get w.nodes i) (slice_get w.sent k))
  step_of_delivered may =
      let n = some_at w.nodes i may.node in
      subst (λ o. IsAccepted (deliver_step w k i m o (slice_get w.sent k))) (sym n.1)
      (subst (λ o. IsAccepted (deliver_step w k i m (Some n.0) o)) (sym may.is_datagram) (arrives n.0 n.1 may.datagram.source may.datagram.packet may.in_time))

-- ---- noise

heard_by : (w : World) (i m : ℕ) (n : Node) (r : Reading) → IsAccepted (hear_noise w i m n r) → (p : Packet) → r ≡ Ok p → ⊥
heard_by w i m n (Ok q) acc p e = let bad = acc.1 in cc
heard_by w i m n (Err f) acc p e = cc

hears : (w : World) (i m : ℕ) (n : Node) (r : Reading) → ((p : Packet) → r ≡ Ok p → ⊥) → IsAccepted (hear_noise w i m n r)
hears w i m n (Ok q) none = absurd (none q refl)
hears w i m n (Err f) none = (_, refl)

noise_by : (w : World) (i m : ℕ) (r : Reading) (on : Option Node) → IsAccepted (noise_step w i m r on) → (p : Packet) → r ≡ Ok p → ⊥
noise_by w i m r None acc p e = let bad = acc.1 in cc
noise_by w i m r (Some n) acc p e = heard_by w i m n r acc p e

refuses : (fault : WorldFault) → IsAccepted (Err fault) → ⊥
refuses fault acc = let bad = acc.1 in cc

-- ---- every event

module _ (shows : List Desk) (setups : List (List Port)) (before : List Event) where
  abbrev start : World
  start = new_world shows setups

  abbrev w : World
  w = reached shows setups before

  newest_known : (i : ℕ) (n : Node) → slice_get w.nodes i ≡ Some n → (s : List ℕ) (u : ℕ) → newest s u n.delivered ≡ greatest (delivered_in start i s u before [])
  newest_known i n e s u = greatest_delivered shows setups before i n s u e

  accepts : (e : Event) → IsAdmissible start before e → IsAccepted (step w e)
  unfolding step
  accepts (Order i m k) h = goes_on w.consoles i (order_step w i m k) (refuses _) (λ c e. (_, refl)) h
  accepts (Poll i m) h = goes_on w.consoles i (poll_step w i m) (refuses _) (λ c e. (_, refl)) h
  accepts (Deliver k i m) h = step_of_delivered w i k m (λ s u. delivered_in start i s u before []) (newest_known i) h
  accepts (Look i port m) h = goes_on w.nodes i (look_step w i port m) (refuses _) (λ n e. (_, refl)) h
  accepts (RestartConsole i first) h = goes_on w.consoles i (restart_console w i first) (refuses _) (λ c e. (_, refl)) h
  accepts (RestartNode i) h = goes_on w.nodes i (restart_node w i) (refuses _) (λ n e. (_, refl)) h
  accepts (Noise i m octets) h = goes_on w.nodes i (noise_step w i m (reading_packet octets.items)) (refuses _) (λ n e. hears w i m n (reading_packet octets.items) h.1) h.0

  admits : (e : Event) → IsAccepted (step w e) → IsAdmissible start before e
  unfolding step
  admits (Order i m k) acc = is_there w.consoles i (order_step w i m k) (refuses _) acc
  admits (Poll i m) acc = is_there w.consoles i (poll_step w i m) (refuses _) acc
  admits (Deliver k i m) acc = delivered_by_step w i k m (λ s u. delivered_in start i s u before []) (newest_known i) (slice_get w.nodes i) (slice_get w.sent k) refl refl acc
  admits (Look i port m) acc = is_there w.nodes i (look_step w i port m) (refuses _) acc
  admits (RestartConsole i first) acc = is_there w.consoles i (restart_console w i first) (refuses _) acc
  admits (RestartNode i) acc = is_there w.nodes i (restart_node w i) (refuses _) acc
  admits (Noise i m octets) acc = (is_there w.nodes i (noise_step w i m (reading_packet octets.items)) (refuses _) acc, noise_by w i m (reading_packet octets.items) (slice_get w.nodes i) acc)

pub admissible_runs : (shows : List Desk) (setups : List (List Port)) (events : List Event) → AreAdmissible (new_world shows setups) events ↔ ((run : Ran) × (ran (new_world shows setups) events ≡ Some run))
unfolding AllAccepted
admissible_runs shows setups events = (
  λ all. run_by (new_world shows setups) events (λ j e ee. accepts shows setups (take j events) e (all j e ee)),
  λ run j e ee. admits shows setups (take j events) e (by_run (new_world shows setups) events run.0 run.1 j e ee),
)
