-- A datagram as a world keeps it: its octets, and where it stands in its stream.
use Rattle.std.specs.Prelude.{◌≡◌, ◌==◌, ◌&&◌, Bool, false, ℕ, List, take, count_by, slice_get, if◌then◌else◌, Option, Some, None, Ok, Err}
use Rattle.sacn_packets.specs.declared.framing.packet.Packet.{Packet}
use Rattle.sacn_packets.specs.declared.framing.packet.Packet.TheVariants.{DataPacket, PagePacket, SyncPacket}
use Rattle.sacn_packets.specs.PacketReading.{reading_packet}
use Rattle.sacn_sources.specs.Order.{same}
use Rattle.sacn_node.specs.Readings.{Reading}
pub use Rattle.sacn_world.specs.declared.datagram.SentDatagram.{SentDatagram}
pub use Rattle.sacn_world.specs.declared.datagram.InStream.{InStream}
use Rattle.std.specs.Prelude.{Vec}
use Rattle.std.specs.Option.{option_map}
use Rattle.std.specs.declared.alloc.Global.{Global}
use Rattle.sacn_world.specs.declared.console.Console.{Console}
use Rattle.sacn_world.specs.declared.fault.WorldFault.{WorldFault}
use Rattle.sacn_world.specs.Streams.{Sent, place_of}
use Rattle.sacn_world.specs.Watches.{Mark, mark_of, mark_refusal}

-- what octets are read as
abbrev pub said : Reading → Packet
said (Ok packet) = packet
said (Err fault) = SyncPacket

abbrev pub seen_sent : SentDatagram → Sent
seen_sent f = record { source = f.source; life = f.life; first = f.first; packet = said (reading_packet f.octets.items) }

-- where datagram k of the source s stands
abbrev pub stream_in : List Sent → ℕ → List ℕ → Packet → Option InStream
stream_in sent k s (DataPacket d) = Some (record { universe = d.universe; place = place_of s d.universe k sent })
stream_in sent k s (PagePacket p) = None
stream_in sent k s SyncPacket = None

pub record DatagramOk (sent : List Sent) (k : ℕ) (f : SentDatagram) : Type 0 where
  pub read : reading_packet f.octets.items ≡ Ok (seen_sent f).packet
  pub stream : f.stream ≡ stream_in sent k f.source (seen_sent f).packet

-- what a node notes of it, and why it may not come
abbrev pub came_by : List ℕ → ℕ → Option InStream → Option Mark
came_by s life None = None
came_by s life (Some i) = Some (record { source = s; universe = i.universe; newest = i.place; life = life; held = i.place })

abbrev pub came_of : SentDatagram → Option Mark
came_of f = came_by f.source f.life f.stream

abbrev pub refusal_in : List ℕ → ℕ → List Mark → Option InStream → Option WorldFault
refusal_in s life marks None = None
refusal_in s life marks (Some i) = mark_refusal life i.place (mark_of s i.universe marks)

abbrev pub refusal_by : SentDatagram → List Mark → Option WorldFault
refusal_by f marks = refusal_in f.source f.life marks f.stream

-- a datagram that stands in this stream
abbrev pub is_in : ℕ → Option InStream → Bool
is_in u None = false
is_in u (Some i) = i.universe == u

abbrev pub is_filed : List ℕ → ℕ → SentDatagram → Bool
is_filed s u f = same s f.source && is_in u f.stream

abbrev pub place_in : List ℕ → ℕ → SentDatagram → Option ℕ
place_in s u f = if is_filed s u f then option_map (λ i. i.place) f.stream else None

-- each datagram's place is how many of its stream stand before it
abbrev pub AreFiled : List SentDatagram → Type 0
AreFiled fs = (k : ℕ) (f : SentDatagram) (i : InStream) → slice_get fs k ≡ Some f → f.stream ≡ Some i →
    i.place ≡ count_by (is_filed f.source i.universe) (take k fs)

-- where a datagram of the source s that is sent next stands: a data packet of a universe, or a page
abbrev pub stream_next : List SentDatagram → List ℕ → Option ℕ → Option InStream
stream_next fs s (Some u) = Some (record { universe = u; place = count_by (is_filed s u) fs })
stream_next fs s None = None

-- octets of a console as a datagram that is sent next
abbrev pub sent_datagram : Console → List SentDatagram → Option ℕ → Vec ℕ Global → SentDatagram
sent_datagram c fs universe octets = record {
  source = c.show.cid;
  life = c.life;
  first = c.first;
  stream = stream_next fs c.show.cid universe;
  octets = octets;
}
