-- Each event keeps what holds of worlds.
use Rattle.std.proofs.Common.{◌≡◌, ℕ, zero, suc, ◌<◌, true, List, [], ◌∷◌, ◌++◌, map, length, Option, Some, None, Ok, Err, refl, sym, ap, subst, ◌∙◌, inl, inr, ◌⊎◌, arith}
use Rattle.std.specs.Prelude.{slice_get, slice_set, option_map}
use Rattle.std.specs.List.{AllByRecursion}
use Rattle.std.proofs.lemmas.Bool.{and_from, eq-eqb}
use Rattle.std.proofs.lemmas.Option.{slice_get-map, same_Some}
use Rattle.sacn_packets.specs.Data.{Data}
use Rattle.sacn_packets.specs.declared.framing.packet.Packet.{Packet}
use Rattle.sacn_packets.specs.declared.framing.packet.Packet.TheVariants.{DataPacket, PagePacket, SyncPacket}
use Rattle.sacn_packets.specs.PacketReading.{reading_packet}
use Rattle.sacn_sources.specs.Packets.{packet_of}
use Rattle.sacn_console.specs.declared.command.Command.{Command}
use Rattle.sacn_console.specs.Shows.{ShowContent}
use Rattle.sacn_console.specs.Lines as line
use Rattle.sacn_console.specs.Core as console
use Rattle.sacn_node.specs.Readings.{Reading}
use Rattle.sacn_node.specs.Setup.{Port, universes}
use Rattle.sacn_schedule.specs.declared.event.Event.{Event}
use Rattle.sacn_schedule.specs.declared.event.Event.TheVariants.{Order, Poll, Deliver, Look, RestartConsole, RestartNode, Noise}
use Rattle.sacn_world.specs.declared.fault.WorldFault.{WorldFault}
use Rattle.sacn_world.specs.Streams.{Sent, is_of, is_on, stream_of, place_of, is_live, priority, levels, Ordered}
use Rattle.sacn_world.specs.Holdings.{newest, refusal}
use Rattle.sacn_world.specs.RowsOfPlaces.{packet_at}
use Rattle.sacn_world.specs.Streams.{kind_by}
use Rattle.sacn_world.specs.Nodes.{Holding, Node, node_of, nothing_held, node_at, HoldOk}
use Rattle.sacn_world.specs.declared.console.Console.{Console}
use Rattle.sacn_world.specs.Worlds.{World, with_console, with_node, order_step, sent_by, with_sent, polled, poll_by, poll_step, restart_console, come, arrive, deliver_step, look_step, hear_noise, noise_step, restart_node, step, left_by, after, new_console, new_world, Apart, NodeOk, ConsoleOk, IsNumbered, Numbered, WorldOk}
use Rattle.sacn_world.proofs.All.{all_weaker, all_get, all_set}
use Rattle.sacn_world.proofs.Sources.{same-itself}
use Rattle.sacn_world.proofs.NodeSteps.{below_after, all_kept, all_noted}
use Rattle.sacn_world.proofs.Growth.{ok_kept, at_kept, number_kept}
use Rattle.sacn_world.proofs.Sending.{place_within, place_stays, streams_push}
use Rattle.sacn_world.proofs.Polls.{numbered}
use Rattle.sacn_world.proofs.Consoles.{ordered_ok, idle_ok, other_ok, polled_ok, restarted_ok, new_ok, empty_streams}

-- the element at a place of a list of which one place was written
pub set_cases : {X : Type 0} (xs : List X) (i j : ℕ) (y d : X) → slice_get (slice_set xs i y) j ≡ Some d → ((j ≡ i) × (d ≡ y)) ⊎ ((slice_get xs j ≡ Some d) × (j ≡ i → ⊥))
set_cases [] i j y d e = absurd (cc)
set_cases (x ∷ xs) zero zero y d e = inl (refl, sym (same_Some y d e))
set_cases (x ∷ xs) zero (suc j) y d e = inr (e, λ f. omega (arith, f))
set_cases (x ∷ xs) (suc i) zero y d e = inr (e, λ f. omega (arith, f))
set_cases (x ∷ xs) (suc i) (suc j) y d e = elim (set_cases xs i j y d e) [ inl h ↦ inl (ap suc h.0, h.1) | inr h ↦ inr (h.0, λ f. h.1 (omega (arith, f))) ]

pub pushed_cases : {X : Type 0} (xs : List X) (k : ℕ) (y x : X) → slice_get (xs ++ y ∷ []) k ≡ Some x → (slice_get xs k ≡ Some x) ⊎ ((k ≡ length xs) × (x ≡ y))
pushed_cases [] zero y x e = inr (refl, sym (same_Some y x e))
pushed_cases [] (suc k) y x e = absurd (cc)
pushed_cases (z ∷ xs) zero y x e = inl e
pushed_cases (z ∷ xs) (suc k) y x e = elim (pushed_cases xs k y x e) [ inl h ↦ inl h | inr h ↦ inr (ap suc h.0, h.1) ]

-- ---- events of consoles

-- a console of the list that was written was there before, under the same CID
was : (cs : List Console) (i j : ℕ) (c y d : Console) → slice_get cs i ≡ Some c → y.show.cid ≡ c.show.cid → slice_get (slice_set cs i y) j ≡ Some d → (b : Console) × (slice_get cs j ≡ Some b) × (b.show.cid ≡ d.show.cid)
was cs i j c y d ec es e = elim (set_cases cs i j y d e) [
  | inl h ↦ (c, ap (slice_get cs) h.0 ∙ ec, sym es ∙ sym (ap (λ (z : Console). z.show.cid) h.1))
  | inr h ↦ (d, h.0, refl)
]

apart_set : (cs : List Console) (i : ℕ) (c y : Console) → slice_get cs i ≡ Some c → y.show.cid ≡ c.show.cid → Apart cs → Apart (slice_set cs i y)
apart_set cs i c y e es apart a b p q ep eq f =
    let g = was cs i a c y p e es ep in
    let h = was cs i b c y q e es eq in
    apart a b g.0 h.0 g.1 h.1 (g.2 ∙ f ∙ sym h.2)

-- a console changes and nothing is sent
console_ok : (w : World) → WorldOk w → (i : ℕ) (c y : Console) → slice_get w.consoles i ≡ Some c → y.show.cid ≡ c.show.cid → ConsoleOk w.sent y → WorldOk (with_console w i y)
console_ok w ok i c y e es yok = record {
  apart = apart_set w.consoles i c y e es ok.apart;
  streams = ok.streams;
  consoles = λ j d ed. elim (set_cases w.consoles i j y d ed) [
    | inl h ↦ subst (ConsoleOk w.sent) (sym h.1) yok
    | inr h ↦ ok.consoles j d h.0
  ];
  numbered = ok.numbered;
  nodes = ok.nodes;
}

-- a packet stays the entry at its place as more is sent
number_stays : (sent : List Sent) (y : Sent) (k : ℕ) (x : Sent) → slice_get sent k ≡ Some x → (d : Data) → x.packet ≡ DataPacket d → packet_of d ≡ packet_at x.source (stream_of x.source d.universe sent) (place_of x.source d.universe k sent) → packet_of d ≡ packet_at x.source (stream_of x.source d.universe (sent ++ y ∷ [])) (place_of x.source d.universe k (sent ++ y ∷ []))
number_stays sent y k x e d ed is =
    let s = x.source in
    let u = d.universe in
    let q = place_of s u k sent in
    let own : is_of s u x ≡ true = and_from _ _ (same-itself s) (ap (is_on u) ed ∙ eq-eqb u u refl) in
    let there = place_within s u sent k x e own in
    let a = at_kept sent y s u q there in
    let n = number_kept sent y s u q there in
    is
    ∙ (λ i. record { source = s; sequence_number = sym n i; kind = kind_by (is_live (sym a i)); priority = priority (sym a i); levels = levels (sym a i) })
    ∙ ap (packet_at s (stream_of s u (sent ++ y ∷ []))) (sym (place_stays s u sent y k x e))

stays_numbered : (sent : List Sent) (y : Sent) (k : ℕ) (x : Sent) → slice_get sent k ≡ Some x → (p : Packet) → x.packet ≡ p → IsNumbered sent k x.source p → IsNumbered (sent ++ y ∷ []) k x.source p
stays_numbered sent y k x e (DataPacket d) ep is = number_stays sent y k x e d ep is
stays_numbered sent y k x e (PagePacket p) ep is = is
stays_numbered sent y k x e SyncPacket ep is = is

new_numbered : (sent : List Sent) (c : Console) (m : ℕ) (d : line.Datagram) → ConsoleOk sent c → console.due (console.at m c.core) ≡ Some d → IsNumbered (sent ++ sent_by c d ∷ []) (length sent) c.show.cid (sent_by c d).packet
new_numbered sent c m (line.Packet d) ok e = numbered sent c m d ok.sender ok.lines e
new_numbered sent c m (line.Paged p) ok e = tt

numbered_push : (sent : List Sent) (c : Console) (m : ℕ) (d : line.Datagram) → ConsoleOk sent c → console.due (console.at m c.core) ≡ Some d → Numbered sent → Numbered (sent ++ sent_by c d ∷ [])
numbered_push sent c m d ok e all k x ex = elim (pushed_cases sent k (sent_by c d) x ex) [
  | inl h ↦ stays_numbered sent (sent_by c d) k x h x.packet refl (all k x h)
  | inr h ↦ subst (λ (z : Sent). IsNumbered (sent ++ sent_by c d ∷ []) k z.source z.packet) (sym h.1) (subst (λ n. IsNumbered (sent ++ sent_by c d ∷ []) n c.show.cid (sent_by c d).packet) (sym h.0) (new_numbered sent c m d ok e))
]

sent_ok : (w : World) → WorldOk w → (i m : ℕ) (c : Console) (d : line.Datagram) → slice_get w.consoles i ≡ Some c → console.due (console.at m c.core) ≡ Some d → WorldOk (with_sent w i (polled m c) (sent_by c d))
sent_ok w ok i m c d e ed =
    let x = sent_by c d in
    let cok = ok.consoles i c e in
    record {
      apart = apart_set w.consoles i c (polled m c) e refl ok.apart;
      streams = streams_push w.sent x cok.latest cok.begun ok.streams;
      consoles = λ j b eb. elim (set_cases w.consoles i j (polled m c) b eb) [
        | inl h ↦ subst (ConsoleOk (w.sent ++ x ∷ [])) (sym h.1) (polled_ok w.sent c m d ed cok)
        | inr h ↦ other_ok w.sent x b (λ f. h.1 (ok.apart j i b c h.0 e f)) (ok.consoles j b h.0)
      ];
      numbered = numbered_push w.sent c m d cok ed ok.numbered;
      nodes = all_weaker (NodeOk w.sent) _ (ok_kept w.sent x) w.nodes ok.nodes;
    }

poll_ok : (w : World) → WorldOk w → (i m : ℕ) (c : Console) → slice_get w.consoles i ≡ Some c → (o : Option line.Datagram) → console.due (console.at m c.core) ≡ o → WorldOk (poll_by w i m c o).world
poll_ok w ok i m c e None ed = console_ok w ok i c (polled m c) e refl (idle_ok w.sent c m ed (ok.consoles i c e))
poll_ok w ok i m c e (Some d) ed = sent_ok w ok i m c d e ed

order_by_ok : (w : World) → WorldOk w → (i m : ℕ) (k : Command) (o : Option Console) → slice_get w.consoles i ≡ o → WorldOk (left_by w (order_step w i m k o))
order_by_ok w ok i m k None e = ok
order_by_ok w ok i m k (Some c) e = console_ok w ok i c _ e refl (ordered_ok w.sent c m k (ok.consoles i c e))

poll_by_ok : (w : World) → WorldOk w → (i m : ℕ) (o : Option Console) → slice_get w.consoles i ≡ o → WorldOk (left_by w (poll_step w i m o))
poll_by_ok w ok i m None e = ok
poll_by_ok w ok i m (Some c) e = poll_ok w ok i m c e _ refl

restart_ok : (w : World) → WorldOk w → (i first : ℕ) (o : Option Console) → slice_get w.consoles i ≡ o → WorldOk (left_by w (restart_console w i first o))
restart_ok w ok i first None e = ok
restart_ok w ok i first (Some c) e = console_ok w ok i c _ e refl (restarted_ok w.sent c first (ok.consoles i c e))

-- ---- events of nodes

node_ok : (w : World) → WorldOk w → (i : ℕ) (n : Node) → NodeOk w.sent n → WorldOk (with_node w i n)
node_ok w ok i n nok = record {
  apart = ok.apart;
  streams = ok.streams;
  consoles = ok.consoles;
  numbered = ok.numbered;
  nodes = all_set (NodeOk w.sent) w.nodes i n ok.nodes nok;
}

at_ok : (w : World) → WorldOk w → (i m : ℕ) (n : Node) → slice_get w.nodes i ≡ Some n → WorldOk (with_node w i (node_at m n))
at_ok w ok i m n e =
    let nok = all_get (NodeOk w.sent) w.nodes i n ok.nodes e in
    node_ok w ok i (node_at m n) (record { within = nok.within; below = all_kept (λ v. HoldOk v n.delivered) _ n.holdings nok.below })

come_ok : (w : World) → WorldOk w → (i m : ℕ) (n : Node) (s : List ℕ) (u q : ℕ) → slice_get w.nodes i ≡ Some n → q < length (stream_of s u w.sent) → (r : Option WorldFault) → refusal (stream_of s u w.sent) (newest s u n.delivered) q ≡ r → WorldOk (left_by w (come w i m n s u q r))
come_ok w ok i m n s u q en there (Some r) e = ok
come_ok w ok i m n s u q en there None e =
    let nok = all_get (NodeOk w.sent) w.nodes i n ok.nodes en in
    let ord = ok.streams s u in
    node_ok w ok i _ (record {
      within = all_noted w.sent (record { source = s; universe = u; place = q }) n.delivered there nok.within;
      below = below_after w.sent s u q m n ord there e nok.within nok.below;
    })

arrive_ok : (w : World) → WorldOk w → (k i m : ℕ) (n : Node) (x : Sent) → slice_get w.nodes i ≡ Some n → slice_get w.sent k ≡ Some x → (p : Packet) → x.packet ≡ p → WorldOk (left_by w (arrive w k i m n x.source p))
arrive_ok w ok k i m n x en ex (DataPacket d) ep =
    let own : is_of x.source d.universe x ≡ true = and_from _ _ (same-itself x.source) (ap (is_on d.universe) ep ∙ eq-eqb d.universe d.universe refl) in
    come_ok w ok i m n x.source d.universe (place_of x.source d.universe k w.sent) en (place_within x.source d.universe w.sent k x ex own) _ refl
arrive_ok w ok k i m n x en ex (PagePacket p) ep = at_ok w ok i m n en
arrive_ok w ok k i m n x en ex SyncPacket ep = at_ok w ok i m n en

deliver_ok : (w : World) → WorldOk w → (k i m : ℕ) (on : Option Node) (ox : Option Sent) → slice_get w.nodes i ≡ on → slice_get w.sent k ≡ ox → WorldOk (left_by w (deliver_step w k i m on ox))
deliver_ok w ok k i m None ox en ex = ok
deliver_ok w ok k i m (Some n) None en ex = ok
deliver_ok w ok k i m (Some n) (Some x) en ex = arrive_ok w ok k i m n x en ex x.packet refl

look_ok : (w : World) → WorldOk w → (i port m : ℕ) (on : Option Node) → slice_get w.nodes i ≡ on → WorldOk (left_by w (look_step w i port m on))
look_ok w ok i port m None e = ok
look_ok w ok i port m (Some n) e = at_ok w ok i m n e

heard_ok : (w : World) → WorldOk w → (i m : ℕ) (n : Node) → slice_get w.nodes i ≡ Some n → (r : Reading) → WorldOk (left_by w (hear_noise w i m n r))
heard_ok w ok i m n e (Ok p) = ok
heard_ok w ok i m n e (Err fault) = at_ok w ok i m n e

noise_ok : (w : World) → WorldOk w → (i m : ℕ) (r : Reading) (on : Option Node) → slice_get w.nodes i ≡ on → WorldOk (left_by w (noise_step w i m r on))
noise_ok w ok i m r None e = ok
noise_ok w ok i m r (Some n) e = heard_ok w ok i m n e r

empty_below : (us : List ℕ) → AllByRecursion (λ (g : Holding). AllByRecursion (HoldOk g.universe []) g.held) (map nothing_held us)
empty_below [] = tt
empty_below (u ∷ us) = (tt, empty_below us)

new_node_ok : (sent : List Sent) (ports : List Port) → NodeOk sent (node_of ports)
new_node_ok sent ports = record { within = tt; below = empty_below (universes ports) }

node_restart_ok : (w : World) → WorldOk w → (i : ℕ) (on : Option Node) → WorldOk (left_by w (restart_node w i on))
node_restart_ok w ok i None = ok
node_restart_ok w ok i (Some n) = node_ok w ok i (node_of n.ports) (new_node_ok w.sent n.ports)

-- ---- any event, and any list

pub step_ok : (w : World) → WorldOk w → (e : Event) → WorldOk (left_by w (step w e))
unfolding step
step_ok w ok (Order i m k) = order_by_ok w ok i m k _ refl
step_ok w ok (Poll i m) = poll_by_ok w ok i m _ refl
step_ok w ok (Deliver k i m) = deliver_ok w ok k i m _ _ refl refl
step_ok w ok (Look i port m) = look_ok w ok i port m _ refl
step_ok w ok (RestartConsole i first) = restart_ok w ok i first _ refl
step_ok w ok (RestartNode i) = node_restart_ok w ok i _
step_ok w ok (Noise i m octets) = noise_ok w ok i m (reading_packet octets.items) _ refl

pub after_ok : (w : World) → WorldOk w → (es : List Event) → WorldOk (after w es)
after_ok w ok [] = ok
after_ok w ok (e ∷ es) = after_ok (left_by w (step w e)) (step_ok w ok e) es

start_nodes : (setups : List (List Port)) → AllByRecursion (NodeOk []) (map node_of setups)
start_nodes [] = tt
start_nodes (ports ∷ setups) = (new_node_ok [] ports, start_nodes setups)

pub mapped : {X Y : Type 0} (f : X → Y) (o : Option X) (y : Y) → option_map f o ≡ Some y → (x : X) × (o ≡ Some x) × (f x ≡ y)
mapped f None y e = cc
mapped f (Some x) y e = (x, refl, same_Some (f x) y e)

pub start_ok : (shows : List (ShowContent × ℕ)) (setups : List (List Port)) → Apart (map new_console shows) → WorldOk (new_world shows setups)
start_ok shows setups apart = record {
  apart = apart;
  streams = λ s u. subst Ordered (sym (empty_streams s u)) (record { ascend = λ i j le lt. absurd (omega arith); begin = λ i j le lt. absurd (omega arith) });
  consoles = λ i c e. let f = mapped new_console (slice_get shows i) c (sym (slice_get-map new_console shows i) ∙ e) in subst (ConsoleOk []) f.2 (new_ok f.0);
  numbered = λ k x e. absurd (cc);
  nodes = start_nodes setups;
}
