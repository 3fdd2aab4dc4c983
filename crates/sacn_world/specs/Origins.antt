-- Where what a node shows comes from: packets that consoles of the world really sent.
use Rattle.std.specs.Prelude.{◌≡◌, ◌↔◌, ℕ, ◌+◌, ◌-◌, ◌<◌, ◌≤◌, false, List, [], map, find, length, get_or, slice_get, Option, Some, None, Contains}
use Rattle.sacn_packets.specs.Data.{Data}
use Rattle.sacn_packets.specs.declared.framing.packet.Packet.TheVariants.{DataPacket}
use Rattle.sacn_sources.specs.Merge.{Shown, merge}
use Rattle.sacn_packets.specs.declared.universe.TheConstants.{SLOTS, FRAME_OCTETS}
use Rattle.sacn_node.specs.declared.setup.SlotRange.{SlotRange}
use Rattle.sacn_node.specs.Setup.{Port}
use Rattle.sacn_node.specs.Ports.{port_of, covers}
use Rattle.sacn_world.specs.declared.answer.Answer.{Answer}
use Rattle.sacn_world.specs.declared.answer.Answer.TheVariants.{Shown as Framed}
use Rattle.sacn_schedule.specs.declared.event.Event.{Event}
use Rattle.sacn_schedule.specs.declared.event.Event.TheVariants.{Look}
use Rattle.sacn_world.specs.Streams.{Sent, place_of}
use Rattle.sacn_world.specs.Holdings.{Hold}
use Rattle.sacn_world.specs.Nodes.{Holding, Node, node_at, holding_of}
use Rattle.sacn_schedule.specs.Cids.{Desk}
use Rattle.sacn_world.specs.Worlds.{World, new_console, Apart}
use Rattle.sacn_world.specs.Laws.{reached}

-- data packet d was really sent, as place q of the stream of s and u: by the console of this CID, as a datagram of the world
pub record ReallySent (shows : List Desk) (sent : List Sent) (s : List ℕ) (u q : ℕ) (d : Data) : Type 0 where
  pub console : ℕ
  pub desk : Desk
  pub is_desk : slice_get shows console ≡ Some desk
  pub cid : desk.0.cid ≡ s
  pub number : ℕ
  pub datagram : Sent
  pub is_datagram : slice_get sent number ≡ Some datagram
  pub source : datagram.source ≡ s
  pub says : datagram.packet ≡ DataPacket d
  pub universe : d.universe ≡ u
  pub place : place_of s u number sent ≡ q

-- a layer of a merge: the priority and the levels of a live packet that was really sent and whose place is held
pub record IsHeldLayer (shows : List Desk) (sent : List Sent) (u : ℕ) (hs : List Hold) (y : Shown) : Type 0 where
  pub hold : Hold
  pub held : Contains hs hold
  pub data_held : Data
  pub sent_so : ReallySent shows sent hold.source u hold.place data_held
  pub live : data_held.terminated ≡ false
  pub layer : record { priority = data_held.priority; levels = data_held.slots } ≡ y

-- the slots are the merge of exactly the live packets that are held
pub record IsMergeOfHeld (shows : List Desk) (sent : List Sent) (u : ℕ) (hs : List Hold) (slots : List ℕ) : Type 0 where
  pub layers : List Shown
  pub exactly : (y : Shown) → Contains layers y ↔ IsHeldLayer shows sent u hs y
  pub merged : slots ≡ merge layers

-- what a node holds on a universe at a moment, after expiry; nothing where it has no such universe
abbrev pub held_in : Option Holding → List Hold
held_in None = []
held_in (Some g) = g.held

abbrev pub held_after_expiry : ℕ → ℕ → Node → List Hold
held_after_expiry u m n = held_in (holding_of u (node_at m n).holdings)

-- octet a of a frame, from 1 on a slot: by the first range that has it its universe's slot, and 0 where none has
abbrev pub slot_by : (ℕ → List ℕ) → Option SlotRange → ℕ → ℕ
slot_by slots None a = 0
slot_by slots (Some r) a = get_or (slots r.universe) (r.slot - 1 + (a - r.port_slot)) 0

-- the frame of a port of node i at moment m: start code 0, and each slot by the port's ranges from the merge of exactly the live
-- packets that the node holds on the range's universe
pub record IsMergedFrame (shows : List Desk) (w : World) (i port m : ℕ) (frame : List ℕ) : Type 0 where
  pub node : Node
  pub is_node : slice_get w.nodes i ≡ Some node
  pub port_there : Port
  pub is_port : port_of port node.ports ≡ Some port_there
  pub slots : ℕ → List ℕ
  pub merges : (u : ℕ) → IsMergeOfHeld shows w.sent u (held_after_expiry u m node) (slots u)
  pub octets : length frame ≡ FRAME_OCTETS
  pub start : get_or frame 0 0 ≡ 0
  pub slot : (a : ℕ) → 0 < a → a ≤ SLOTS → get_or frame a 0 ≡ slot_by slots (find (covers a) port_there.ranges) a

-- ---- over lists of events from a new world

-- Each place that a node holds is that of a packet that was really sent, by the console of that CID
abbrev pub HeldPlacesWereSent : Type 0
HeldPlacesWereSent =
    (shows : List Desk) (setups : List (List Port)) (events : List Event) (i : ℕ) (n : Node) (u : ℕ) (g : Holding) (h : Hold) → Apart (map new_console shows) →
    let w = reached shows setups events in
    slice_get w.nodes i ≡ Some n → holding_of u n.holdings ≡ Some g → Contains g.held h → (d : Data) × ReallySent shows w.sent h.source u h.place d

-- event j is a look at this port of node i at moment m, and was answered with the frame
pub record Looked (events : List Event) (answers : List Answer) (j i port m : ℕ) (frame : List ℕ) : Type 0 where
  pub event : slice_get events j ≡ Some (Look i port m)
  pub answer : slice_get answers j ≡ Some (Framed frame)

-- Nodes keep the ports of their setups
abbrev pub NodesKeepTheirPorts : Type 0
NodesKeepTheirPorts = (shows : List Desk) (setups : List (List Port)) (events : List Event) → map (λ n. n.ports) (reached shows setups events).nodes ≡ setups
