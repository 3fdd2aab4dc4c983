-- Where a datagram goes by multicast (E1.31, 9.3).
use Rattle.std.specs.Prelude.{ℕ, List, Option, None, Some, Ok, Err}
use Rattle.std.specs.Option.{option_map}
use Rattle.sacn_packets.specs.Naming.{group_of}
use Rattle.sacn_packets.specs.PacketReading.{Reading}
use Rattle.sacn_packets.specs.declared.framing.packet.Packet.TheVariants.{DataPacket, PagePacket, SyncPacket}
use Rattle.sacn_desk.specs.declared.destinations.TheConstants.{DISCOVERY_UNIVERSE}

-- what is told of a datagram that is read so: of a data packet its universe, of a page that it has none; of others nothing
abbrev pub universe_read : Reading → Option (Option ℕ)
universe_read (Ok (DataPacket d)) = Some (Some d.universe)
universe_read (Ok (PagePacket p)) = Some None
universe_read (Ok SyncPacket) = None
universe_read (Err fault) = None

-- the group of a data packet of this universe, or of a page
abbrev pub group_told : Option ℕ → List ℕ
group_told (Some universe) = group_of universe
group_told None = group_of DISCOVERY_UNIVERSE

-- a data packet goes to the group of its universe, and a page to that of discovery
abbrev pub destination_by : Reading → Option (List ℕ)
destination_by read = option_map group_told (universe_read read)
