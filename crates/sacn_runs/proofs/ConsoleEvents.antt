-- One event of a world: what it makes of a console is what its requests make of the console's core.
use Rattle.std.proofs.Common.{◌≡◌, ℕ, true, false, cond, List, [], ◌∷◌, ◌++◌, map, Option, Some, None, Ok, Err, refl, sym, ap, subst, ◌∙◌, arith, append-nil, slice_get}
use Rattle.std.specs.Prelude.{slice_set, ◌==◌, is_ok, if◌then◌else◌}
use Rattle.std.proofs.lemmas.Bool.{eqb-true, eqb-false}
use Rattle.sacn_packets.specs.declared.framing.packet.Packet.{Packet}
use Rattle.sacn_packets.specs.declared.framing.packet.Packet.TheVariants.{DataPacket, PagePacket, SyncPacket}
use Rattle.sacn_packets.specs.PacketReading.{reading_packet}
use Rattle.sacn_sources.specs.Order.{same}
use Rattle.sacn_console.specs.declared.command.Command.{Command}
use Rattle.sacn_console.specs.declared.sender.Sender.{Sender}
use Rattle.sacn_console.specs.Lines as line
use Rattle.sacn_console.specs.Core as console
use Rattle.sacn_console.specs.Runs.{Call, Order, Poll}
use Rattle.sacn_node.specs.Readings.{Reading}
use Rattle.sacn_schedule.specs.declared.event.Event.{Event}
use Rattle.sacn_schedule.specs.declared.event.Event.TheVariants as event
use Rattle.sacn_edge.specs.ConsoleSends.{octets_of}
use Rattle.sacn_world.specs.declared.answer.Answer.{Answer}
use Rattle.sacn_world.specs.declared.answer.Answer.TheVariants as answered
use Rattle.sacn_world.specs.declared.console.Console.{Console}
use Rattle.sacn_world.specs.declared.fault.WorldFault.{WorldFault}
use Rattle.sacn_world.specs.Streams.{Sent}
use Rattle.sacn_world.specs.Nodes.{Node}
use Rattle.sacn_world.specs.Worlds.{World, Outcome, Step, with_core, polled, order_step, said_by, sent_by, poll_by, poll_step, restart_console, come, arrive, deliver_step, look_step, hear_noise, noise_step, restart_node, step, left_by, Apart}
use Rattle.sacn_world.proofs.Changes.{set_other, set_there}
use Rattle.sacn_world.proofs.Sources.{same_source, same-itself}
use Rattle.sacn_runs.specs.ConsoleRuns.{requests_by, octets_of_packet, octets_from, refused_in, refused_with}
use Rattle.sacn_runs.proofs.Requests.{Requests, over, gave, refused_count}

text_so : (sender : Sender) (d : line.Datagram) → octets_of_packet (said_by sender d) ≡ console.text sender d
unfolding console.packet_text
text_so sender (line.Packet d) = refl
text_so sender (line.Paged p) = refl

abbrev answer_of : Step → Answer
answer_of (Ok o) = o.answer
answer_of (Err fault) = answered.Idle

own_octets : (s : List ℕ) (x : Sent) → same s x.source ≡ true → octets_from s (x ∷ []) ≡ octets_of_packet x.packet ∷ []
own_octets s x e = ap (λ b. map (λ (y : Sent). octets_of_packet y.packet) (cond b (x ∷ []) [])) e

others_octets : (s : List ℕ) (x : Sent) → same s x.source ≡ false → octets_from s (x ∷ []) ≡ []
others_octets s x e = ap (λ b. map (λ (y : Sent). octets_of_packet y.packet) (cond b (x ∷ []) [])) e

-- console i of w, which is c, is as these requests leave it in v; what it sent and refused is what they give
pub record Did (w v : World) (i : ℕ) (c : Console) (rs : Requests) (count : ℕ) : Type 0 where
  pub there : slice_get v.consoles i ≡ Some (with_core c (over rs c.core))
  pub more : List Sent
  pub grown : v.sent ≡ w.sent ++ more
  pub octets : octets_from c.show.cid more ≡ gave rs c.core
  pub count_is : count ≡ refused_count rs c.core

module _ (w : World) (apart : Apart w.consoles) (i : ℕ) (c : Console) (here : slice_get w.consoles i ≡ Some c) where
  abbrev Rests : World → Type 0
  Rests v = (slice_get v.consoles i ≡ Some c) × (v.sent ≡ w.sent)

  rests : Rests w
  rests = (here, refl)

  idle : (v : World) → Rests v → Did w v i c [] 0
  idle v r = record { there = r.0; more = []; grown = r.1 ∙ sym (append-nil w.sent); octets = refl; count_is = refl }

  left_as : (t : Step) (o : Outcome) → t ≡ Ok o → Rests (left_by w t) → Did w o.world i c [] 0
  left_as t o h r = idle o.world (subst Rests (ap (left_by w) h) r)

  -- ---- events of nodes

  came : (j m : ℕ) (n : Node) (s : List ℕ) (u q : ℕ) (f : Option WorldFault) → Rests (left_by w (come w j m n s u q f))
  came j m n s u q (Some f) = rests
  came j m n s u q None = rests

  arrived : (k j m : ℕ) (n : Node) (s : List ℕ) (p : Packet) → Rests (left_by w (arrive w k j m n s p))
  arrived k j m n s (DataPacket d) = came j m n s d.universe _ _
  arrived k j m n s (PagePacket p) = rests
  arrived k j m n s SyncPacket = rests

  delivered : (k j m : ℕ) (on : Option Node) (ox : Option Sent) → Rests (left_by w (deliver_step w k j m on ox))
  delivered k j m None ox = rests
  delivered k j m (Some n) None = rests
  delivered k j m (Some n) (Some x) = arrived k j m n x.source x.packet

  looked : (j port m : ℕ) (on : Option Node) → Rests (left_by w (look_step w j port m on))
  looked j port m None = rests
  looked j port m (Some n) = rests

  heard_so : (j m : ℕ) (n : Node) (r : Reading) → Rests (left_by w (hear_noise w j m n r))
  heard_so j m n (Ok p) = rests
  heard_so j m n (Err f) = rests

  noised : (j m : ℕ) (r : Reading) (on : Option Node) → Rests (left_by w (noise_step w j m r on))
  noised j m r None = rests
  noised j m r (Some n) = heard_so j m n r

  node_anew : (j : ℕ) (on : Option Node) → Rests (left_by w (restart_node w j on))
  node_anew j None = rests
  node_anew j (Some n) = rests

  -- ---- events of other consoles

  other_there : (j : ℕ) (y : Console) → (j ≡ i → ⊥) → slice_get (slice_set w.consoles j y) i ≡ Some c
  other_there j y ne = set_other w.consoles i j y ne ∙ here

  other_ordered : (j m : ℕ) (k : Command) (oc : Option Console) → (j ≡ i → ⊥) → Rests (left_by w (order_step w j m k oc))
  other_ordered j m k None ne = rests
  other_ordered j m k (Some d) ne = (other_there j _ ne, refl)

  other_anew : (j first : ℕ) (oc : Option Console) → (j ≡ i → ⊥) → Rests (left_by w (restart_console w j first oc))
  other_anew j first None ne = rests
  other_anew j first (Some d) ne = (other_there j _ ne, refl)

  differ : (j : ℕ) (d : Console) → slice_get w.consoles j ≡ Some d → (j ≡ i → ⊥) → same c.show.cid d.show.cid ≡ false
  differ j d e ne =
      elim (same c.show.cid d.show.cid) as (λ b. same c.show.cid d.show.cid ≡ b → b ≡ false) [
        | true ↦ λ alike. absurd (ne (sym (apart i j c d here e (same_source c.show.cid d.show.cid alike))))
        | false ↦ λ unlike. refl
      ] refl

  other_sent : (j m : ℕ) (d : Console) (due : Option line.Datagram) → slice_get w.consoles j ≡ Some d → (j ≡ i → ⊥) → Did w (poll_by w j m d due).world i c [] 0
  other_sent j m d None e ne = idle _ (other_there j _ ne, refl)
  other_sent j m d (Some y) e ne = record { there = other_there j _ ne; more = sent_by d y ∷ []; grown = refl; octets = others_octets c.show.cid (sent_by d y) (differ j d e ne); count_is = refl }

  other_polled : (j m : ℕ) (o : Outcome) (oc : Option Console) → slice_get w.consoles j ≡ oc → poll_step w j m oc ≡ Ok o → (j ≡ i → ⊥) → Did w o.world i c [] 0
  other_polled j m o None e h ne = absurd (cc)
  other_polled j m o (Some d) e h ne = subst (λ (v : World). Did w v i c [] 0) (ap (left_by w) h) (other_sent j m d _ e ne)

  -- ---- events of this console

  ordered_here : (m : ℕ) (k : Command) (o : Outcome) → order_step w i m k (Some c) ≡ Ok o → Did w o.world i c (Some (Order m k) ∷ []) (refused_in o.answer)
  ordered_here m k o h =
      let made : slice_get (left_by w (order_step w i m k (Some c))).consoles i ≡ Some (with_core c (console.after_command m k c.core)) = set_there w.consoles i c _ here in
      let is = ap (left_by w) h in
      let count : refused_in o.answer ≡ (if is_ok (console.answer k (console.at m c.core)) then 0 else 1) = ap (λ t. refused_in (answer_of t)) (sym h) in
      record {
        there = ap (λ (v : World). slice_get v.consoles i) (sym is) ∙ made;
        more = [];
        grown = ap (λ (v : World). v.sent) (sym is) ∙ sym (append-nil w.sent);
        octets = refl;
        count_is = omega (arith, count);
      }

  polled_by : (m : ℕ) (due : Option line.Datagram) → console.due (console.at m c.core) ≡ due → Did w (poll_by w i m c due).world i c (Some (Poll m) ∷ []) 0
  polled_by m None e = record {
    there = set_there w.consoles i c (polled m c) here;
    more = [];
    grown = sym (append-nil w.sent);
    octets = ap (λ d. octets_of c.core.sender d ++ []) (sym e);
    count_is = refl;
  }
  polled_by m (Some d) e = record {
    there = set_there w.consoles i c (polled m c) here;
    more = sent_by c d ∷ [];
    grown = refl;
    octets = own_octets c.show.cid (sent_by c d) (same-itself c.show.cid) ∙ ap (λ t. t ∷ []) (text_so c.core.sender d) ∙ ap (λ z. octets_of c.core.sender z ++ []) (sym e);
    count_is = refl;
  }

  polled_here : (m : ℕ) (o : Outcome) → poll_step w i m (Some c) ≡ Ok o → Did w o.world i c (Some (Poll m) ∷ []) 0
  polled_here m o h = subst (λ (v : World). Did w v i c (Some (Poll m) ∷ []) 0) (ap (left_by w) h) (polled_by m _ refl)

  -- ---- any event that doesn't start this console anew

  order_did : (j m : ℕ) (k : Command) (o : Outcome) → order_step w j m k (slice_get w.consoles j) ≡ Ok o → Did w o.world i c (if j == i then Some (Order m k) ∷ [] else []) (if j == i then refused_in o.answer else 0)
  order_did j m k o h =
      elim (j == i) as (λ b. (j == i) ≡ b → Did w o.world i c (if b then Some (Order m k) ∷ [] else []) (if b then refused_in o.answer else 0)) [
        | true ↦ λ e. ordered_here m k o (ap (order_step w i m k) (sym here) ∙ ap (λ z. order_step w z m k (slice_get w.consoles z)) (sym (eqb-true j i e)) ∙ h)
        | false ↦ λ e. left_as _ o h (other_ordered j m k (slice_get w.consoles j) (eqb-false j i e))
      ] refl

  poll_did : (j m : ℕ) (o : Outcome) → poll_step w j m (slice_get w.consoles j) ≡ Ok o → Did w o.world i c (if j == i then Some (Poll m) ∷ [] else []) 0
  poll_did j m o h =
      elim (j == i) as (λ b. (j == i) ≡ b → Did w o.world i c (if b then Some (Poll m) ∷ [] else []) 0) [
        | true ↦ λ e. polled_here m o (ap (poll_step w i m) (sym here) ∙ ap (λ z. poll_step w z m (slice_get w.consoles z)) (sym (eqb-true j i e)) ∙ h)
        | false ↦ λ e. other_polled j m o (slice_get w.consoles j) refl h (eqb-false j i e)
      ] refl

  no_start : (rs : Requests) (calls : List Call) → None ∷ rs ≡ map Some calls → ⊥
  no_start rs [] e = cc
  no_start rs (x ∷ calls) e = cc

  anew_did : (j first : ℕ) (o : Outcome) (later : Requests) (calls : List Call) → (if j == i then None ∷ [] else []) ++ later ≡ map Some calls → restart_console w j first (slice_get w.consoles j) ≡ Ok o → Did w o.world i c (if j == i then None ∷ [] else []) 0
  anew_did j first o later calls all h =
      elim (j == i) as (λ b. (j == i) ≡ b → (if b then None ∷ [] else []) ++ later ≡ map Some calls → Did w o.world i c (if b then None ∷ [] else []) 0) [
        | true ↦ λ e starts. absurd (no_start later calls starts)
        | false ↦ λ e none. left_as _ o h (other_anew j first (slice_get w.consoles j) (eqb-false j i e))
      ] refl all

  pub event_did : (e : Event) (o : Outcome) (later : Requests) (calls : List Call) → requests_by i e ++ later ≡ map Some calls → step w e ≡ Ok o → Did w o.world i c (requests_by i e) (refused_with i e o.answer)
  unfolding step
  event_did (event.Order j m k) o later calls all h = order_did j m k o h
  event_did (event.Poll j m) o later calls all h = poll_did j m o h
  event_did (event.Deliver k j m) o later calls all h = left_as _ o h (delivered k j m (slice_get w.nodes j) (slice_get w.sent k))
  event_did (event.Look j port m) o later calls all h = left_as _ o h (looked j port m (slice_get w.nodes j))
  event_did (event.RestartConsole j first) o later calls all h = anew_did j first o later calls all h
  event_did (event.RestartNode j) o later calls all h = left_as _ o h (node_anew j (slice_get w.nodes j))
  event_did (event.Noise j m octets) o later calls all h = left_as _ o h (noised j m (reading_packet octets.items) (slice_get w.nodes j))
