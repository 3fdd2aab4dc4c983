-- Which lists of events a world accepts: the premise of the headline.
use Rattle.std.specs.Prelude.{◌≡◌, ℕ, ◌+◌, ◌<◌, ◌≤◌, List, [], take, length, slice_get, Some, Ok}
use Rattle.sacn_packets.specs.Data.{Data}
use Rattle.sacn_packets.specs.declared.framing.packet.Packet.{Packet}
use Rattle.sacn_packets.specs.declared.framing.packet.Packet.TheVariants.{DataPacket}
use Rattle.sacn_packets.specs.PacketReading.{reading_packet}
use Rattle.sacn_schedule.specs.declared.event.Event.{Event}
use Rattle.sacn_schedule.specs.declared.event.Event.TheVariants.{Order, Poll, Deliver, Look, RestartConsole, RestartNode, Noise}
use Rattle.sacn_world.specs.declared.limits.TheConstants.{TOO_FAR_BEHIND}
use Rattle.sacn_world.specs.Streams.{Sent, stream_of, life_at, place_of}
use Rattle.sacn_world.specs.Worlds.{World, after}
use Rattle.sacn_world.specs.Newest.{greatest, delivered_in}

-- place q of a stream may come to a node to which these places of the stream were delivered since it started: the newest of them
-- is of no later life, and of its life fewer than twenty sends on
abbrev pub MayCome : List Sent → List ℕ → ℕ → Type 0
MayCome st delivered q = (newest : ℕ) → greatest delivered ≡ Some newest →
    (life_at st newest ≤ life_at st q) × (life_at st q ≡ life_at st newest → newest < q + TOO_FAR_BEHIND)

-- datagram k may come to node i of world w, where these are the places that were delivered of each stream: there is such a node
-- and such a datagram; a data packet may come as its place, and a page may at any time
pub record MayBeDelivered (w : World) (delivered : List ℕ → ℕ → List ℕ) (k i : ℕ) : Type 0 where
  pub node : i < length w.nodes
  pub datagram : Sent
  pub is_datagram : slice_get w.sent k ≡ Some datagram
  pub in_time : (d : Data) → datagram.packet ≡ DataPacket d →
      MayCome (stream_of datagram.source d.universe w.sent) (delivered datagram.source d.universe) (place_of datagram.source d.universe k w.sent)

-- an event that may come after these events of a world: its console or node is there, its datagram may be delivered, its noise
-- is no packet
abbrev pub IsAdmissible : World → List Event → Event → Type 0
IsAdmissible start before (Order c m k) = c < length (after start before).consoles
IsAdmissible start before (Poll c m) = c < length (after start before).consoles
IsAdmissible start before (RestartConsole c first) = c < length (after start before).consoles
IsAdmissible start before (Look i port m) = i < length (after start before).nodes
IsAdmissible start before (RestartNode i) = i < length (after start before).nodes
IsAdmissible start before (Noise i m octets) = (i < length (after start before).nodes) × ((p : Packet) → reading_packet octets.items ≡ Ok p → ⊥)
IsAdmissible start before (Deliver k i m) = MayBeDelivered (after start before) (λ s u. delivered_in start i s u before []) k i

-- each event may come after those before it
abbrev pub AreAdmissible : World → List Event → Type 0
AreAdmissible start events = (j : ℕ) (e : Event) → slice_get events j ≡ Some e → IsAdmissible start (take j events) e
