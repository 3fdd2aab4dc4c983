-- What comes to a node, in a world and in the loop of a node that runs: one form for both.
use Rattle.std.specs.Prelude.{ℕ, ◌==◌, if◌then◌else◌, List, [], ◌∷◌, ◌++◌, map, slice_get, Option, Some, None, Ok, Err}
use Rattle.std.specs.Option.{option_map}
use Rattle.sacn_packets.specs.declared.framing.packet.Packet.{Packet}
use Rattle.sacn_packets.specs.PacketReading.{reading_packet}
use Rattle.sacn_node.specs.Readings.{Reading}
use Rattle.sacn_schedule.specs.declared.event.Event.{Event}
use Rattle.sacn_schedule.specs.declared.event.Event.TheVariants.{Order, Poll, Deliver, Look, RestartConsole, RestartNode, Noise}
use Rattle.sacn_edge.specs.Hearings.{Heard, Silence, Octets, Fault}
use Rattle.sacn_edge.specs.NodeText.{Turn}
use Rattle.sacn_world.specs.Streams.{Sent}
use Rattle.sacn_world.specs.Worlds.{World, step, left_by}

-- at a moment a packet came, or nothing that is one; or at a moment a port's frame was asked for; or the node started anew
pub data Visit : Type 0 where
  Came : ℕ → Option Packet → Visit
  Asked : ℕ → ℕ → Visit
  Began : Visit

-- ---- in a world: a delivered datagram is what it says, and noise is no packet

abbrev pub packet_sent : List Sent → ℕ → Option Packet
packet_sent sent k = option_map (λ x. x.packet) (slice_get sent k)

abbrev pub visits_by : List Sent → ℕ → Event → List Visit
visits_by sent i (Order j m k) = []
visits_by sent i (Poll j m) = []
visits_by sent i (Deliver k j m) = if j == i then Came m (packet_sent sent k) ∷ [] else []
visits_by sent i (Look j port m) = if j == i then Asked m port ∷ [] else []
visits_by sent i (RestartConsole j first) = []
visits_by sent i (RestartNode j) = if j == i then Began ∷ [] else []
visits_by sent i (Noise j m octets) = if j == i then Came m None ∷ [] else []

-- what comes to node i of a world over some events
abbrev pub visits : World → ℕ → List Event → List Visit
visits w i [] = []
visits w i (e ∷ es) = visits_by w.sent i e ++ visits (left_by w (step w e)) i es

-- ---- in a loop: each turn brings what was received, and then asks for the frame of each port

abbrev pub packet_read : Reading → Option Packet
packet_read (Ok packet) = Some packet
packet_read (Err fault) = None

abbrev pub packet_heard : Heard → Option Packet
packet_heard Silence = None
packet_heard (Octets octets) = packet_read (reading_packet octets)
packet_heard Fault = None

abbrev pub turn_visits : List ℕ → Turn → List Visit
turn_visits numbers t = Came t.now (packet_heard t.heard) ∷ map (λ number. Asked t.now number) numbers

-- what comes to a node of these ports over some turns, of which the list has the latest first
abbrev pub loop_visits : List ℕ → List Turn → List Visit
loop_visits numbers [] = []
loop_visits numbers (t ∷ ts) = loop_visits numbers ts ++ turn_visits numbers t
