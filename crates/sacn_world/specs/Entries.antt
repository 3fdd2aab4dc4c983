-- What an event leaves of a place that a node holds, and how long an entry lasts.
use Rattle.std.specs.Prelude.{◌≡◌, ◌≢◌, ⊤, ℕ, ◌<◌, ◌≤◌, max, true, ◌==◌, if◌then◌else◌, List, [], ◌∷◌, slice_get, Some, Ok}
use Rattle.sacn_packets.specs.Data.{Data}
use Rattle.sacn_packets.specs.declared.framing.packet.Packet.TheVariants.{DataPacket}
use Rattle.sacn_sources.specs.declared.answer.Taken.{Taken as TableTaken}
use Rattle.sacn_node.specs.declared.answer.NodeTaken.TheVariants.{FromTable}
use Rattle.sacn_world.specs.declared.answer.Answer.{Answer}
use Rattle.sacn_world.specs.declared.answer.Answer.TheVariants.{Taken}
use Rattle.sacn_schedule.specs.declared.event.Event.{Event}
use Rattle.sacn_schedule.specs.declared.event.Event.TheVariants.{Order, Poll, Deliver, Look, RestartConsole, RestartNode, Noise}
use Rattle.sacn_world.specs.Streams.{Sent, place_of}
use Rattle.sacn_world.specs.Holdings.{Hold, is_renewed, takes_place}
use Rattle.sacn_world.specs.Nodes.{Node}
use Rattle.sacn_world.specs.Worlds.{World, Outcome, step, left_by, after, held_at, place_at}

-- the moment that an event hands to node i, 0 where it is not for that node
abbrev pub moment_for : ℕ → Event → ℕ
moment_for i (Order j m k) = 0
moment_for i (Poll j m) = 0
moment_for i (Deliver k j m) = if j == i then m else 0
moment_for i (Look j port m) = if j == i then m else 0
moment_for i (RestartConsole j first) = 0
moment_for i (RestartNode j) = 0
moment_for i (Noise j m octets) = if j == i then m else 0

-- the entry of s on u at node i lasts through an event: the event is no restart of the node, and at its moment in use the entry
-- has not expired
pub record LastsThrough (w : World) (i : ℕ) (s : List ℕ) (u : ℕ) (e : Event) : Type 0 where
  pub runs : e ≢ RestartNode i
  pub renewed : (n : Node) (h : Hold) → slice_get w.nodes i ≡ Some n → held_at i s u w ≡ Some h → is_renewed (max n.moment (moment_for i e)) h ≡ true

-- and through a list of events
abbrev pub Lasts : World → ℕ → List ℕ → ℕ → List Event → Type 0
Lasts w i s u [] = ⊤
Lasts w i s u (e ∷ es) = LastsThrough w i s u e × Lasts (left_by w (step w e)) i s u es

-- node i holds a packet of s on u at place p or at a later one
pub record HoldsFrom (w : World) (i : ℕ) (s : List ℕ) (u p : ℕ) : Type 0 where
  pub place : ℕ
  pub held : place_at i s u w ≡ Some place
  pub no_earlier : p ≤ place

-- the answer says that the packet is now what the node holds
abbrev pub TakesItsPlace : Answer → Type 0
TakesItsPlace a = (taken : TableTaken) × (a ≡ Taken (FromTable taken)) × (takes_place taken ≡ true)

-- the place of datagram k is held after a delivery, and is later than what the node held until then and had not lost
pub record MovesForward (w v : World) (i m : ℕ) (s : List ℕ) (u q : ℕ) : Type 0 where
  pub held : place_at i s u v ≡ Some q
  pub later : (n : Node) (h : Hold) → slice_get w.nodes i ≡ Some n → held_at i s u w ≡ Some h → is_renewed (max n.moment m) h ≡ true → h.place < q

pub record NoHeldPacketGivesWay : Type 0 where
  -- while its entry lasts, a source stays held, at no earlier place
  pub stays : (w : World) (events : List Event) (i : ℕ) (s : List ℕ) (u p : ℕ) → place_at i s u w ≡ Some p → Lasts w i s u events →
      HoldsFrom (after w events) i s u p
  -- and a delivery that is answered Held or EndedNow takes it to a later one, that of its packet
  pub moves : (w : World) (i k m : ℕ) (x : Sent) (d : Data) (o : Outcome) → slice_get w.sent k ≡ Some x → x.packet ≡ DataPacket d →
      step w (Deliver k i m) ≡ Ok o → TakesItsPlace o.answer → MovesForward w o.world i m x.source d.universe (place_of x.source d.universe k w.sent)
