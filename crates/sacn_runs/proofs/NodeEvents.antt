-- One event of a world: what it makes of a node is what its visits make of the node's core.
use Rattle.std.proofs.Common.{◌≡◌, ℕ, max, Bool, true, false, List, [], ◌∷◌, ◌++◌, Option, Some, None, Ok, Err, refl, sym, ap, subst, ◌∙◌, slice_get}
use Rattle.std.specs.Prelude.{option_map, ◌==◌, if◌then◌else◌}
use Rattle.std.proofs.lemmas.Bool.{eqb-true, eqb-false}
use Rattle.sacn_packets.specs.declared.framing.packet.Packet.{Packet}
use Rattle.sacn_packets.specs.declared.framing.packet.Packet.TheVariants.{DataPacket, PagePacket, SyncPacket}
use Rattle.sacn_packets.specs.PacketReading.{reading_packet}
use Rattle.sacn_console.specs.declared.command.Command.{Command}
use Rattle.sacn_console.specs.Lines as line
use Rattle.sacn_node.specs.Setup.{Port, universes}
use Rattle.sacn_node.specs.Cores.{Core, new_core, core_at, core_slots, node_frame}
use Rattle.sacn_node.specs.Ports.{port_of, frame_on}
use Rattle.sacn_node.specs.Readings.{Reading, after_reading}
use Rattle.sacn_schedule.specs.declared.event.Event.{Event}
use Rattle.sacn_schedule.specs.declared.event.Event.TheVariants as event
use Rattle.sacn_edge.specs.NodeText.{FrameLine, with_frame}
use Rattle.sacn_world.specs.declared.answer.Answer.{Answer}
use Rattle.sacn_world.specs.declared.answer.Answer.TheVariants as answered
use Rattle.sacn_world.specs.declared.fault.WorldFault.{WorldFault}
use Rattle.sacn_world.specs.declared.console.Console.{Console}
use Rattle.sacn_world.specs.Streams.{Sent}
use Rattle.sacn_world.specs.Nodes.{Node, node_of, node_at, frame_of, seen_core}
use Rattle.sacn_world.specs.Worlds.{World, Outcome, Step, with_node, order_step, poll_by, poll_step, sent_by, restart_console, come, arrive, deliver_step, answer_to_look, look_step, hear_noise, noise_step, restart_node, step, left_by, NodeOk, WorldOk}
use Rattle.sacn_world.proofs.All.{all_get}
use Rattle.sacn_world.proofs.Changes.{set_same, set_other}
use Rattle.sacn_world.proofs.Growth.{node_kept}
use Rattle.sacn_world.proofs.Keeping.{new_seen}
use Rattle.sacn_world.proofs.NodeSteps.{at_seen, slots_seen}
use Rattle.sacn_world.proofs.Replies.{numbers_agree}
use Rattle.sacn_runs.specs.NodeVisits.{Visit, Came, Asked, Began, packet_sent, visits_by}
use Rattle.sacn_runs.specs.NodeRuns.{moment_with, frame_told, line_with}
use Rattle.sacn_runs.specs.GatewayRuns.{port_look, looks_by}
use Rattle.sacn_runs.proofs.Visits.{Showing, node_with, core_after_visit, show_all, came_moment}
use Rattle.sacn_runs.proofs.GatewayTurns.{looked_in}

abbrev answer_of : Step → Answer
answer_of (Ok o) = o.answer
answer_of (Err fault) = answered.Idle

told_so : (o : Option (List ℕ)) → frame_told (answer_to_look o) ≡ o
told_so None = refl
told_so (Some frame) = refl

abbrev pub Sees : World → ℕ → Core → Type 0
Sees w i c = (n : Node) → slice_get w.nodes i ≡ Some n → seen_core w.sent n ≡ c

-- the event left this world, moment and lines, as these visits make them of a core and its lines
pub record Made (v : World) (i : ℕ) (ports : List Port) (s : Showing) (vs : List Visit) (t : ℕ) (ls : List FrameLine) : Type 0 where
  pub sees : Sees v i (show_all ports vs s).core
  pub lines : ls ≡ (show_all ports vs s).lines
  pub moment : t ≡ (show_all ports vs s).core.moment

module _ (w : World) (ok : WorldOk w) (i : ℕ) (ports : List Port) (own : (n : Node) → slice_get w.nodes i ≡ Some n → n.ports ≡ ports) (s : Showing) (sees : Sees w i s.core) where
  -- ---- events of consoles, and of other nodes

  pushed : (x : Sent) (n : Node) → slice_get w.nodes i ≡ Some n → seen_core (w.sent ++ x ∷ []) n ≡ s.core
  pushed x n e = node_kept w.sent x n (all_get (NodeOk w.sent) w.nodes i n ok.nodes e) ∙ sees n e

  other : (j : ℕ) (y : Node) → (j ≡ i → ⊥) → Sees (with_node w j y) i s.core
  other j y ne n e = sees n (sym (set_other w.nodes i j y ne) ∙ e)

  ordered : (j m : ℕ) (k : Command) (oc : Option Console) → Sees (left_by w (order_step w j m k oc)) i s.core
  ordered j m k None = sees
  ordered j m k (Some c) = sees

  polled_by : (j m : ℕ) (c : Console) (d : Option line.Datagram) → Sees (poll_by w j m c d).world i s.core
  polled_by j m c None = sees
  polled_by j m c (Some d) = pushed (sent_by c d)

  polled : (j m : ℕ) (oc : Option Console) → Sees (left_by w (poll_step w j m oc)) i s.core
  polled j m None = sees
  polled j m (Some c) = polled_by j m c _

  console_anew : (j first : ℕ) (oc : Option Console) → Sees (left_by w (restart_console w j first oc)) i s.core
  console_anew j first None = sees
  console_anew j first (Some c) = sees

  come_there : (j m : ℕ) (n : Node) (r : List ℕ) (u q : ℕ) (f : Option WorldFault) → (j ≡ i → ⊥) → Sees (left_by w (come w j m n r u q f)) i s.core
  come_there j m n r u q (Some f) ne = sees
  come_there j m n r u q None ne = other j _ ne

  arrive_there : (k j m : ℕ) (n : Node) (r : List ℕ) (p : Packet) → (j ≡ i → ⊥) → Sees (left_by w (arrive w k j m n r p)) i s.core
  arrive_there k j m n r (DataPacket d) ne = come_there j m n r d.universe _ _ ne
  arrive_there k j m n r (PagePacket p) ne = other j _ ne
  arrive_there k j m n r SyncPacket ne = other j _ ne

  deliver_there : (k j m : ℕ) (on : Option Node) (ox : Option Sent) → (j ≡ i → ⊥) → Sees (left_by w (deliver_step w k j m on ox)) i s.core
  deliver_there k j m None ox ne = sees
  deliver_there k j m (Some n) None ne = sees
  deliver_there k j m (Some n) (Some x) ne = arrive_there k j m n x.source x.packet ne

  look_there : (j port m : ℕ) (on : Option Node) → (j ≡ i → ⊥) → Sees (left_by w (look_step w j port m on)) i s.core
  look_there j port m None ne = sees
  look_there j port m (Some n) ne = other j _ ne

  heard_there : (j m : ℕ) (n : Node) (r : Reading) → (j ≡ i → ⊥) → Sees (left_by w (hear_noise w j m n r)) i s.core
  heard_there j m n (Ok p) ne = sees
  heard_there j m n (Err f) ne = other j _ ne

  noise_there : (j m : ℕ) (r : Reading) (on : Option Node) → (j ≡ i → ⊥) → Sees (left_by w (noise_step w j m r on)) i s.core
  noise_there j m r None ne = sees
  noise_there j m r (Some n) ne = heard_there j m n r ne

  node_anew_there : (j : ℕ) (on : Option Node) → (j ≡ i → ⊥) → Sees (left_by w (restart_node w j on)) i s.core
  node_anew_there j None ne = sees
  node_anew_there j (Some n) ne = other j _ ne

  -- ---- events of this node

  written : (y : Node) (c : Core) → seen_core w.sent y ≡ c → Sees (with_node w i y) i c
  written y c h n e = ap (seen_core w.sent) (sym (set_same w.nodes i y n e)) ∙ h

  moved_at : (m : ℕ) (n : Node) → slice_get w.nodes i ≡ Some n → seen_core w.sent (node_at m n) ≡ core_at m s.core
  moved_at m n e = sym (at_seen w.sent m n) ∙ ap (core_at m) (sees n e)

  frame_so : (port m : ℕ) (n : Node) → slice_get w.nodes i ≡ Some n → frame_of w.sent port (node_at m n) ≡ node_frame port (node_with ports (core_at m s.core))
  frame_so port m n e =
      (λ j. frame_on (λ u. sym (slots_seen w.sent (node_at m n) u) j) (port_of port n.ports))
      ∙ ap (λ c. frame_on (core_slots c) (port_of port n.ports)) (moved_at m n e)
      ∙ ap (λ ps. frame_on (core_slots (core_at m s.core)) (port_of port ps)) (own n e)

  delivered : (k m : ℕ) (o : Outcome) → step w (event.Deliver k i m) ≡ Ok o → (on : Option Node) (ox : Option Sent) → slice_get w.nodes i ≡ on → slice_get w.sent k ≡ ox → deliver_step w k i m on ox ≡ Ok o → Sees o.world i (core_after_visit m (packet_sent w.sent k) s.core)
  delivered k m o is None ox en ex h = absurd (cc)
  delivered k m o is (Some n) None en ex h = absurd (cc)
  delivered k m o is (Some n) (Some x) en ex h = λ l el.
      (numbers_agree w ok k i m n l x o en ex is el).1
      ∙ ap (after_reading (Ok x.packet) m) (sees n en)
      ∙ ap (λ p. core_after_visit m (option_map (λ (y : Sent). y.packet) p) s.core) (sym ex)

  looked : (port m : ℕ) (o : Outcome) (on : Option Node) → slice_get w.nodes i ≡ on → look_step w i port m on ≡ Ok o → Sees o.world i (core_at m s.core) × (frame_told o.answer ≡ node_frame port (node_with ports (core_at m s.core)))
  looked port m o None en h = absurd (cc)
  looked port m o (Some n) en h = (
    subst (λ (v : World). Sees v i (core_at m s.core)) (ap (left_by w) h) (written (node_at m n) (core_at m s.core) (moved_at m n en)),
    ap (λ t. frame_told (answer_of t)) (sym h) ∙ told_so (frame_of w.sent port (node_at m n)) ∙ frame_so port m n en,
  )

  heard_here : (m : ℕ) (o : Outcome) (n : Node) (r : Reading) → slice_get w.nodes i ≡ Some n → hear_noise w i m n r ≡ Ok o → Sees o.world i (core_at m s.core)
  heard_here m o n (Ok p) en h = absurd (cc)
  heard_here m o n (Err fault) en h = subst (λ (v : World). Sees v i (core_at m s.core)) (ap (left_by w) h) (written (node_at m n) (core_at m s.core) (moved_at m n en))

  noised : (m : ℕ) (o : Outcome) (r : Reading) (on : Option Node) → slice_get w.nodes i ≡ on → noise_step w i m r on ≡ Ok o → Sees o.world i (core_at m s.core)
  noised m o r None en h = absurd (cc)
  noised m o r (Some n) en h = heard_here m o n r en h

  began : (o : Outcome) (on : Option Node) → slice_get w.nodes i ≡ on → restart_node w i on ≡ Ok o → Sees o.world i (new_core (universes ports))
  began o None en h = absurd (cc)
  began o (Some n) en h =
      let fresh : seen_core w.sent (node_of n.ports) ≡ new_core (universes ports) = sym (new_seen w.sent n.ports) ∙ ap (λ ps. new_core (universes ps)) (own n en) in
      subst (λ (v : World). Sees v i (new_core (universes ports))) (ap (left_by w) h) (written (node_of n.ports) (new_core (universes ports)) fresh)

  -- ---- any event

  abbrev same_as : Outcome → Event → List FrameLine → Type 0
  same_as o e ls = Made o.world i ports s (visits_by w.sent i e) (moment_with i e s.core.moment) ls

  elsewhere : (v : World) → Sees v i s.core → Made v i ports s [] s.core.moment s.lines
  elsewhere v h = record { sees = h; lines = refl; moment = refl }

  left_as : (t : Step) (o : Outcome) → t ≡ Ok o → Sees (left_by w t) i s.core → Made o.world i ports s [] s.core.moment s.lines
  left_as t o h l = elsewhere o.world (subst (λ (v : World). Sees v i s.core) (ap (left_by w) h) l)

  deliver_made : (k j m : ℕ) (o : Outcome) → step w (event.Deliver k j m) ≡ Ok o → same_as o (event.Deliver k j m) s.lines
  unfolding step
  deliver_made k j m o h =
      elim (j == i) as (λ b. (j == i) ≡ b → Made o.world i ports s (if b then Came m (packet_sent w.sent k) ∷ [] else []) (if b then max s.core.moment m else s.core.moment) s.lines) [
        | true ↦ λ e.
            let here : step w (event.Deliver k i m) ≡ Ok o = ap (λ z. step w (event.Deliver k z m)) (sym (eqb-true j i e)) ∙ h in
            record { sees = delivered k m o here (slice_get w.nodes i) (slice_get w.sent k) refl refl here; lines = refl; moment = sym (came_moment m (packet_sent w.sent k) s.core) }
        | false ↦ λ e. left_as _ o h (deliver_there k j m (slice_get w.nodes j) (slice_get w.sent k) (eqb-false j i e))
      ] refl

  look_made : (j port m : ℕ) (o : Outcome) → step w (event.Look j port m) ≡ Ok o → same_as o (event.Look j port m) (line_with i (moment_with i (event.Look j port m) s.core.moment) (event.Look j port m) o.answer s.lines)
  unfolding step
  look_made j port m o h =
      elim (j == i) as (λ b. (j == i) ≡ b → Made o.world i ports s (if b then Asked m port ∷ [] else []) (if b then max s.core.moment m else s.core.moment) (if b then with_frame port (if b then max s.core.moment m else s.core.moment) (frame_told o.answer) s.lines else s.lines)) [
        | true ↦ λ e.
            let l = looked port m o (slice_get w.nodes i) refl (ap (λ z. look_step w z port m (slice_get w.nodes z)) (sym (eqb-true j i e)) ∙ h) in
            record { sees = l.0; lines = ap (λ f. with_frame port (max s.core.moment m) f s.lines) l.1; moment = refl }
        | false ↦ λ e. left_as _ o h (look_there j port m (slice_get w.nodes j) (eqb-false j i e))
      ] refl

  noise_made : (j m : ℕ) (r : Reading) (o : Outcome) → noise_step w j m r (slice_get w.nodes j) ≡ Ok o → Made o.world i ports s (if j == i then Came m None ∷ [] else []) (if j == i then max s.core.moment m else s.core.moment) s.lines
  noise_made j m r o h =
      elim (j == i) as (λ b. (j == i) ≡ b → Made o.world i ports s (if b then Came m None ∷ [] else []) (if b then max s.core.moment m else s.core.moment) s.lines) [
        | true ↦ λ e. record { sees = noised m o r (slice_get w.nodes i) refl (ap (λ z. noise_step w z m r (slice_get w.nodes z)) (sym (eqb-true j i e)) ∙ h); lines = refl; moment = refl }
        | false ↦ λ e. left_as _ o h (noise_there j m r (slice_get w.nodes j) (eqb-false j i e))
      ] refl

  anew_made : (j : ℕ) (o : Outcome) → restart_node w j (slice_get w.nodes j) ≡ Ok o → Made o.world i ports s (if j == i then Began ∷ [] else []) (if j == i then 0 else s.core.moment) s.lines
  anew_made j o h =
      elim (j == i) as (λ b. (j == i) ≡ b → Made o.world i ports s (if b then Began ∷ [] else []) (if b then 0 else s.core.moment) s.lines) [
        | true ↦ λ e. record { sees = began o (slice_get w.nodes i) refl (ap (λ z. restart_node w z (slice_get w.nodes z)) (sym (eqb-true j i e)) ∙ h); lines = refl; moment = refl }
        | false ↦ λ e. left_as _ o h (node_anew_there j (slice_get w.nodes j) (eqb-false j i e))
      ] refl

  pub event_made : (e : Event) (o : Outcome) → step w e ≡ Ok o → same_as o e (line_with i (moment_with i e s.core.moment) e o.answer s.lines)
  unfolding step
  event_made (event.Order j m k) o h = left_as _ o h (ordered j m k (slice_get w.consoles j))
  event_made (event.Poll j m) o h = left_as _ o h (polled j m (slice_get w.consoles j))
  event_made (event.Deliver k j m) o h = deliver_made k j m o h
  event_made (event.Look j port m) o h = look_made j port m o h
  event_made (event.RestartConsole j first) o h = left_as _ o h (console_anew j first (slice_get w.consoles j))
  event_made (event.RestartNode j) o h = anew_made j o h
  event_made (event.Noise j m octets) o h = noise_made j m (reading_packet octets.items) o h

  -- ---- what a look is answered

  came_looks : (b : Bool) (m : ℕ) (p : Option Packet) → [] ≡ looked_in ports (if b then Came m p ∷ [] else []) s
  came_looks true m p = refl
  came_looks false m p = refl

  began_looks : (b : Bool) → [] ≡ looked_in ports (if b then Began ∷ [] else []) s
  began_looks true = refl
  began_looks false = refl

  look_looks : (j port m : ℕ) (o : Outcome) → look_step w j port m (slice_get w.nodes j) ≡ Ok o → looks_by i (event.Look j port m) o.answer ≡ looked_in ports (if j == i then Asked m port ∷ [] else []) s
  look_looks j port m o h =
      elim (j == i) as (λ b. (j == i) ≡ b → (if b then port_look port m (frame_told o.answer) ∷ [] else []) ≡ looked_in ports (if b then Asked m port ∷ [] else []) s) [
        | true ↦ λ e.
            let l = looked port m o (slice_get w.nodes i) refl (ap (λ z. look_step w z port m (slice_get w.nodes z)) (sym (eqb-true j i e)) ∙ h) in
            ap (λ f. port_look port m f ∷ []) l.1
        | false ↦ λ e. refl
      ] refl

  pub event_looked : (e : Event) (o : Outcome) → step w e ≡ Ok o → looks_by i e o.answer ≡ looked_in ports (visits_by w.sent i e) s
  unfolding step
  event_looked (event.Order j m k) o h = refl
  event_looked (event.Poll j m) o h = refl
  event_looked (event.Deliver k j m) o h = came_looks (j == i) m (packet_sent w.sent k)
  event_looked (event.Look j port m) o h = look_looks j port m o h
  event_looked (event.RestartConsole j first) o h = refl
  event_looked (event.RestartNode j) o h = began_looks (j == i)
  event_looked (event.Noise j m octets) o h = came_looks (j == i) m None
