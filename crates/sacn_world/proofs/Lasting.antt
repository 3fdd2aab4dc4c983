-- No held packet gives way: what each event leaves of a place that a node holds.
use Rattle.std.proofs.Common.{◌≡◌, ℕ, ◌≤◌, max, Bool, true, false, cond, List, [], ◌∷◌, Option, Some, None, Ok, Err, refl, sym, ap, subst, ◌∙◌, inl, inr, arith, slice_get}
use Rattle.std.specs.Prelude.{option_map, filter, find, ◌==◌, if◌then◌else◌}
use Rattle.std.proofs.lemmas.Bool.{eq-eqb, cases_eq}
use Rattle.std.proofs.lemmas.Option.{same_Some, none-some as none_some}
use Rattle.sacn_packets.specs.Data.{Data}
use Rattle.sacn_packets.specs.declared.framing.packet.Packet.{Packet}
use Rattle.sacn_packets.specs.declared.framing.packet.Packet.TheVariants.{DataPacket, PagePacket, SyncPacket}
use Rattle.sacn_packets.specs.PacketReading.{reading_packet}
use Rattle.sacn_console.specs.Lines as line
use Rattle.sacn_console.specs.declared.command.Command.{Command}
use Rattle.sacn_node.specs.Readings.{Reading}
use Rattle.sacn_node.specs.declared.answer.NodeTaken.{NodeTaken}
use Rattle.sacn_node.specs.declared.answer.NodeTaken.TheVariants.{FromTable}
use Rattle.sacn_sources.specs.Order.{same}
use Rattle.sacn_sources.specs.declared.answer.Taken.{Taken}
use Rattle.sacn_world.specs.declared.answer.Answer.{Answer}
use Rattle.sacn_world.specs.declared.answer.Answer.TheVariants as answered
use Rattle.sacn_world.specs.declared.console.Console.{Console}
use Rattle.sacn_schedule.specs.declared.event.Event.{Event}
use Rattle.sacn_schedule.specs.declared.event.Event.TheVariants.{Order, Poll, Deliver, Look, RestartConsole, RestartNode, Noise}
use Rattle.sacn_world.specs.declared.fault.WorldFault.{WorldFault}
use Rattle.sacn_world.specs.Streams.{Sent, stream_of, place_of}
use Rattle.sacn_world.specs.Holdings.{Hold, is_renewed, unexpired, hold_of, put, takes_place, answer, holding_after, after_delivery}
use Rattle.sacn_world.specs.Nodes.{Holding, Node, node_of, unexpired_all, holding_of, reply_on, change, node_reply, node_after, node_at}
use Rattle.sacn_world.specs.Worlds.{World, Outcome, Step, with_node, order_step, poll_by, poll_step, restart_console, come, arrive, deliver_step, look_step, hear_noise, noise_step, restart_node, step, left_by, after, place_on, hold_in, held_at, place_at}
use Rattle.sacn_world.specs.Entries.{LastsThrough, Lasts, HoldsFrom, TakesItsPlace, MovesForward, NoHeldPacketGivesWay}
use Rattle.sacn_world.proofs.Forward.{never_back, later_than_held}
use Rattle.sacn_world.proofs.Maps.{hold_of-put}
use Rattle.sacn_world.proofs.Runs.{mapped}
use Rattle.sacn_world.proofs.Changes.{find_kept, find_change, find_change_other, set_there, set_other}

-- ---- expiry leaves what is renewed

still_found : {X : Type 0} (test p : X → Bool) (xs : List X) (x : X) → find test xs ≡ Some x → p x ≡ true → find test (filter p xs) ≡ Some x
still_found test p [] x e pass = e
still_found test p (y ∷ ys) x e pass =
    elim (test y) as (λ b. test y ≡ b → cond b (Some y) (find test ys) ≡ Some x → find test (filter p (y ∷ ys)) ≡ Some x) [
      | true ↦ λ t f.
          let is : y ≡ x = same_Some y x f in
          let py : p y ≡ true = ap p is ∙ pass in
          ap (λ b. find test (cond b (y ∷ filter p ys) (filter p ys))) py ∙ ap (λ b. cond b (Some y) (find test (filter p ys))) t ∙ f
      | false ↦ λ t f.
          let rest = still_found test p ys x f pass in
          elim (p y) as (λ b. find test (cond b (y ∷ filter p ys) (filter p ys)) ≡ Some x) [
            | true ↦ ap (λ b. cond b (Some y) (find test (filter p ys))) t ∙ rest
            | false ↦ rest
          ]
    ] refl e

-- ---- one node

kept_holding : (s : List ℕ) (t : ℕ) (h : Hold) → is_renewed t h ≡ true → (o : Option Holding) → place_on s o ≡ Some h → place_on s (option_map (λ (g : Holding). record { universe = g.universe; held = unexpired t g.held }) o) ≡ Some h
kept_holding s t h new None e = e
kept_holding s t h new (Some g) e = still_found (λ (k : Hold). same s k.source) (is_renewed t) g.held h e new

expiry_keeps : (s : List ℕ) (u t : ℕ) (h : Hold) (gs : List Holding) → is_renewed t h ≡ true → place_on s (holding_of u gs) ≡ Some h → place_on s (holding_of u (unexpired_all t gs)) ≡ Some h
expiry_keeps s u t h gs new e = ap (place_on s) (find_kept u t gs) ∙ kept_holding s t h new (holding_of u gs) e

record Onward (s : List ℕ) (h : Hold) (o : Option Holding) : Type 0 where
  hold : Hold
  held : place_on s o ≡ Some hold
  no_earlier : h.place ≤ hold.place

changed_holding : (st : List Sent) (r s : List ℕ) (q t : ℕ) (h : Hold) (o : Option Holding) → place_on s o ≡ Some h → Onward s h (option_map (λ (g : Holding). record { universe = g.universe; held = after_delivery st r q t g.held }) o)
changed_holding st r s q t h None e = absurd (none_some h e)
changed_holding st r s q t h (Some g) e = let k = never_back st r q t g.held s h e in record { hold = k.0; held = k.1; no_earlier = k.2 }

delivery_keeps : (st : List Sent) (r s : List ℕ) (v u q t : ℕ) (h : Hold) (gs : List Holding) → place_on s (holding_of u gs) ≡ Some h → Onward s h (holding_of u (change v (after_delivery st r q t) gs))
delivery_keeps st r s v u q t h gs e =
    elim (cases_eq v u) [
      | inl same' ↦ subst (λ (z : ℕ). Onward s h (holding_of u (change z (after_delivery st r q t) gs))) (sym same') (subst (Onward s h) (sym (find_change u (after_delivery st r q t) gs)) (changed_holding st r s q t h (holding_of u gs) e))
      | inr apart ↦ record { hold = h; held = ap (place_on s) (find_change_other u v (after_delivery st r q t) gs apart) ∙ e; no_earlier = omega arith }
    ]

-- ---- a world

record StillHeld (w : World) (i : ℕ) (s : List ℕ) (u : ℕ) (h : Hold) : Type 0 where
  hold : Hold
  held : held_at i s u w ≡ Some hold
  no_earlier : h.place ≤ hold.place

some_node : (s : List ℕ) (u : ℕ) (h : Hold) (o : Option Node) → hold_in s u o ≡ Some h → (n : Node) × (o ≡ Some n) × (place_on s (holding_of u n.holdings) ≡ Some h)
some_node s u h None e = absurd (none_some h e)
some_node s u h (Some n) e = (n, refl, e)

pick_same : (i m : ℕ) → (if i == i then m else 0) ≡ m
pick_same i m = ap (λ b. if b then m else 0) (eq-eqb i i refl)

module _ (w : World) (i : ℕ) (s : List ℕ) (u : ℕ) (h : Hold) (is : held_at i s u w ≡ Some h) where
  same_world : StillHeld w i s u h
  same_world = record { hold = h; held = is; no_earlier = omega arith }

  -- node j is written, node i being another
  other_node : (j : ℕ) (n : Node) → (j ≡ i → ⊥) → StillHeld (with_node w j n) i s u h
  other_node j n ne = record { hold = h; held = ap (hold_in s u) (set_other w.nodes i j n ne) ∙ is; no_earlier = omega arith }

  -- node i is written
  own_node : (n l : Node) → slice_get w.nodes i ≡ Some n → Onward s h (holding_of u l.holdings) → StillHeld (with_node w i l) i s u h
  own_node n l e k = record { hold = k.hold; held = ap (hold_in s u) (set_there w.nodes i n l e) ∙ k.held; no_earlier = k.no_earlier }

  here : (n : Node) → slice_get w.nodes i ≡ Some n → place_on s (holding_of u n.holdings) ≡ Some h
  here n e = sym (ap (hold_in s u) e) ∙ is

  at_own : (m : ℕ) (n : Node) → slice_get w.nodes i ≡ Some n → is_renewed (max n.moment m) h ≡ true → StillHeld (with_node w i (node_at m n)) i s u h
  at_own m n e new = own_node n (node_at m n) e (record { hold = h; held = expiry_keeps s u (max n.moment m) h n.holdings new (here n e); no_earlier = omega arith })

  module _ (j m : ℕ) (new : (n : Node) → slice_get w.nodes i ≡ Some n → is_renewed (max n.moment (if j == i then m else 0)) h ≡ true) where
    new_at : j ≡ i → (n : Node) → slice_get w.nodes i ≡ Some n → is_renewed (max n.moment m) h ≡ true
    new_at ji n e = subst (λ z. is_renewed (max n.moment z) h ≡ true) (ap (λ b. if b then m else 0) (eq-eqb j i ji)) (new n e)

    at_node : (n : Node) → slice_get w.nodes j ≡ Some n → StillHeld (with_node w j (node_at m n)) i s u h
    at_node n e = elim (cases_eq j i) [
      | inl ji ↦ let ei : slice_get w.nodes i ≡ Some n = ap (slice_get w.nodes) (sym ji) ∙ e in
          subst (λ z. StillHeld (with_node w z (node_at m n)) i s u h) (sym ji) (at_own m n ei (new_at ji n ei))
      | inr ne ↦ other_node j (node_at m n) ne
    ]

    after_own : (r : List ℕ) (v q : ℕ) (n : Node) → slice_get w.nodes i ≡ Some n → is_renewed (max n.moment m) h ≡ true → StillHeld (with_node w i (node_after w.sent r v q m n)) i s u h
    after_own r v q n e renewed =
        own_node n (node_after w.sent r v q m n) e
        (delivery_keeps (stream_of r v w.sent) r s v u q (max n.moment m) h (unexpired_all (max n.moment m) n.holdings) (expiry_keeps s u (max n.moment m) h n.holdings renewed (here n e)))

    come_keeps : (r : List ℕ) (v q : ℕ) (n : Node) (f : Option WorldFault) → slice_get w.nodes j ≡ Some n → StillHeld (left_by w (come w j m n r v q f)) i s u h
    come_keeps r v q n (Some f) e = same_world
    come_keeps r v q n None e = elim (cases_eq j i) [
      | inl ji ↦ let ei : slice_get w.nodes i ≡ Some n = ap (slice_get w.nodes) (sym ji) ∙ e in
          subst (λ z. StillHeld (with_node w z (node_after w.sent r v q m n)) i s u h) (sym ji) (after_own r v q n ei (new_at ji n ei))
      | inr ne ↦ other_node j (node_after w.sent r v q m n) ne
    ]

    arrive_keeps : (k : ℕ) (r : List ℕ) (n : Node) (p : Packet) → slice_get w.nodes j ≡ Some n → StillHeld (left_by w (arrive w k j m n r p)) i s u h
    arrive_keeps k r n (DataPacket d) e = come_keeps r d.universe _ n _ e
    arrive_keeps k r n (PagePacket p) e = at_node n e
    arrive_keeps k r n SyncPacket e = at_node n e

    deliver_keeps : (k : ℕ) (on' : Option Node) (ox : Option Sent) → slice_get w.nodes j ≡ on' → StillHeld (left_by w (deliver_step w k j m on' ox)) i s u h
    deliver_keeps k None ox e = same_world
    deliver_keeps k (Some n) None e = same_world
    deliver_keeps k (Some n) (Some x) e = arrive_keeps k x.source n x.packet e

    look_keeps : (port : ℕ) (on' : Option Node) → slice_get w.nodes j ≡ on' → StillHeld (left_by w (look_step w j port m on')) i s u h
    look_keeps port None e = same_world
    look_keeps port (Some n) e = at_node n e

    heard_keeps : (n : Node) (r : Reading) → slice_get w.nodes j ≡ Some n → StillHeld (left_by w (hear_noise w j m n r)) i s u h
    heard_keeps n (Ok p) e = same_world
    heard_keeps n (Err f) e = at_node n e

    noise_keeps : (r : Reading) (on' : Option Node) → slice_get w.nodes j ≡ on' → StillHeld (left_by w (noise_step w j m r on')) i s u h
    noise_keeps r None e = same_world
    noise_keeps r (Some n) e = heard_keeps n r e

  order_keeps : (j m : ℕ) (k : Command) (o : Option Console) → StillHeld (left_by w (order_step w j m k o)) i s u h
  order_keeps j m k None = same_world
  order_keeps j m k (Some c) = record { hold = h; held = is; no_earlier = omega arith }

  poll_by_keeps : (j m : ℕ) (c : Console) (o : Option line.Datagram) → StillHeld (poll_by w j m c o).world i s u h
  poll_by_keeps j m c None = record { hold = h; held = is; no_earlier = omega arith }
  poll_by_keeps j m c (Some d) = record { hold = h; held = is; no_earlier = omega arith }

  poll_keeps : (j m : ℕ) (o : Option Console) → StillHeld (left_by w (poll_step w j m o)) i s u h
  poll_keeps j m None = same_world
  poll_keeps j m (Some c) = poll_by_keeps j m c _

  console_keeps : (j first : ℕ) (o : Option Console) → StillHeld (left_by w (restart_console w j first o)) i s u h
  console_keeps j first None = same_world
  console_keeps j first (Some c) = record { hold = h; held = is; no_earlier = omega arith }

  anew_keeps : (j : ℕ) (on' : Option Node) → (j ≡ i → ⊥) → StillHeld (left_by w (restart_node w j on')) i s u h
  anew_keeps j None ne = same_world
  anew_keeps j (Some n) ne = other_node j (node_of n.ports) ne

  step_keeps : (e : Event) → LastsThrough w i s u e → StillHeld (left_by w (step w e)) i s u h
  unfolding step
  step_keeps (Order j m k) lasts = order_keeps j m k _
  step_keeps (Poll j m) lasts = poll_keeps j m _
  step_keeps (Deliver k j m) lasts = deliver_keeps j m (λ n e. lasts.renewed n h e is) k _ _ refl
  step_keeps (Look j port m) lasts = look_keeps j m (λ n e. lasts.renewed n h e is) port _ refl
  step_keeps (RestartConsole j first) lasts = console_keeps j first _
  step_keeps (RestartNode j) lasts = anew_keeps j _ (λ ji. lasts.runs (ap RestartNode ji))
  step_keeps (Noise j m octets) lasts = noise_keeps j m (λ n e. lasts.renewed n h e is) (reading_packet octets.items) _ refl

held_onward : (w : World) (es : List Event) (i : ℕ) (s : List ℕ) (u : ℕ) (h : Hold) → held_at i s u w ≡ Some h → Lasts w i s u es → StillHeld (after w es) i s u h
held_onward w [] i s u h is lasts = record { hold = h; held = is; no_earlier = omega arith }
held_onward w (e ∷ es) i s u h is lasts =
    let a = step_keeps w i s u h is e lasts.0 in
    let b = held_onward (left_by w (step w e)) es i s u a.hold a.held lasts.1 in
    record { hold = b.hold; held = b.held; no_earlier = omega (arith, a.no_earlier, b.no_earlier) }

pub places_stay : (w : World) (events : List Event) (i : ℕ) (s : List ℕ) (u p : ℕ) → place_at i s u w ≡ Some p → Lasts w i s u events → HoldsFrom (after w events) i s u p
places_stay w es i s u p is lasts =
    let a = mapped (λ (h : Hold). h.place) (held_at i s u w) p is in
    let b = held_onward w es i s u a.0 a.1 lasts in
    record { place = b.hold.place; held = ap (option_map (λ (h : Hold). h.place)) b.held; no_earlier = omega (arith, a.2, b.no_earlier) }

-- ---- a delivery whose packet is now held

abbrev Takes : NodeTaken → Type 0
Takes a = (taken : Taken) × (a ≡ FromTable taken) × (takes_place taken ≡ true)

taken_of : (a b : NodeTaken) → answered.Taken a ≡ answered.Taken b → a ≡ b
taken_of a b e = cc

from_table : (a b : Taken) → FromTable a ≡ FromTable b → a ≡ b
from_table a b e = cc

put_by : (a : Taken) (n : Hold) (hs : List Hold) → takes_place a ≡ true → hold_of n.source (holding_after a n hs) ≡ Some n
put_by a n hs e = ap (λ b. hold_of n.source (cond b (put n hs) hs)) e ∙ hold_of-put n hs

-- the reply of a node that has the universe
reply_taken : (st : List Sent) (s : List ℕ) (q : ℕ) (o : Option Holding) → Takes (reply_on st s q o) → (g : Holding) × (o ≡ Some g) × (takes_place (answer st s q g.held) ≡ true)
reply_taken st s q None takes = absurd (let e = takes.1 in cc)
reply_taken st s q (Some g) takes = (g, refl, ap takes_place (from_table _ _ takes.1) ∙ takes.2)

moved_node : (w : World) (i m : ℕ) (n : Node) (s : List ℕ) (u q : ℕ) → slice_get w.nodes i ≡ Some n → Takes (node_reply w.sent s u q m n) → MovesForward w (with_node w i (node_after w.sent s u q m n)) i m s u q
moved_node w i m n s u q en takes =
    let st = stream_of s u w.sent in
    let t = max n.moment m in
    let new : Hold = record { source = s; place = q; moment = t } in
    let r = reply_taken st s q (holding_of u (unexpired_all t n.holdings)) takes in
    let put_there : place_on s (holding_of u (change u (after_delivery st s q t) (unexpired_all t n.holdings))) ≡ Some new =
    ap (place_on s) (find_change u (after_delivery st s q t) (unexpired_all t n.holdings)) ∙ ap (λ o. place_on s (option_map (λ (g : Holding). record { universe = g.universe; held = after_delivery st s q t g.held }) o)) r.1 ∙ put_by (answer st s q r.0.held) new r.0.held r.2 in
    record {
      held = ap (option_map (λ (h : Hold). h.place)) (ap (hold_in s u) (set_there w.nodes i n (node_after w.sent s u q m n) en) ∙ put_there);
      later = λ l h el is renewed.
          let ln : l ≡ n = same_Some l n (sym el ∙ en) in
          let fresh : is_renewed t h ≡ true = subst (λ (z : Node). is_renewed (max z.moment m) h ≡ true) ln renewed in
          let kept = expiry_keeps s u t h n.holdings fresh (sym (ap (hold_in s u) en) ∙ is) in
          let in_holding : hold_of s r.0.held ≡ Some h = sym (ap (place_on s) r.1) ∙ kept in
          later_than_held st s q r.0.held h in_holding r.2;
    }

come_moves : (w : World) (i m : ℕ) (n : Node) (s : List ℕ) (u q : ℕ) (f : Option WorldFault) (o : Outcome) → slice_get w.nodes i ≡ Some n → come w i m n s u q f ≡ Ok o → TakesItsPlace o.answer → MovesForward w o.world i m s u q
come_moves w i m n s u q (Some f) o en e takes = absurd (cc)
come_moves w i m n s u q None o en e takes =
    let answers : answered.Taken (node_reply w.sent s u q m n) ≡ o.answer = ap (answer_in w) e in
    let world : with_node w i (node_after w.sent s u q m n) ≡ o.world = ap (left_by w) e in
    subst (λ z. MovesForward w z i m s u q) world (moved_node w i m n s u q en (takes.0, taken_of _ _ (answers ∙ takes.1), takes.2))
  where
    answer_in : World → Step → Answer
    answer_in w (Ok o) = o.answer
    answer_in w (Err f) = answered.Idle

by_node : (w : World) (i k m : ℕ) (x : Sent) (d : Data) (o : Outcome) (on' : Option Node) → slice_get w.nodes i ≡ on' → x.packet ≡ DataPacket d → deliver_step w k i m on' (Some x) ≡ Ok o → TakesItsPlace o.answer → MovesForward w o.world i m x.source d.universe (place_of x.source d.universe k w.sent)
by_node w i k m x d o None en ed e takes = absurd (cc)
by_node w i k m x d o (Some n) en ed e takes = come_moves w i m n x.source d.universe (place_of x.source d.universe k w.sent) _ o en (sym (ap (arrive w k i m n x.source) ed) ∙ e) takes

delivery_moves : (w : World) (i k m : ℕ) (x : Sent) (d : Data) (o : Outcome) → slice_get w.sent k ≡ Some x → x.packet ≡ DataPacket d → step w (Deliver k i m) ≡ Ok o → TakesItsPlace o.answer → MovesForward w o.world i m x.source d.universe (place_of x.source d.universe k w.sent)
unfolding step
delivery_moves w i k m x d o ex ed e takes = by_node w i k m x d o (slice_get w.nodes i) refl ed (sym (ap (deliver_step w k i m (slice_get w.nodes i)) ex) ∙ e) takes

pub no_way_given : NoHeldPacketGivesWay
no_way_given = record { stays = places_stay; moves = delivery_moves }
