-- What octets do to a node core, by their one reading.
use Rattle.std.specs.Prelude.{ℕ, Ok, Err}
use Rattle.sacn_packets.specs.declared.framing.packet.Packet.TheVariants.{DataPacket, PagePacket, SyncPacket}
pub use Rattle.sacn_packets.specs.PacketReading.{Reading}
use Rattle.sacn_sources.specs.Packets.{packet_of}
use Rattle.sacn_node.specs.declared.answer.NodeTaken.{NodeTaken}
use Rattle.sacn_node.specs.declared.answer.NodeTaken.TheVariants.{Discovery, Sync, Refused}
use Rattle.sacn_node.specs.Cores.{Core, core_reply, core_after, core_at}

abbrev pub reply_to : Reading → ℕ → Core → NodeTaken
reply_to (Ok (DataPacket d)) now n = core_reply d.universe (packet_of d) now n
reply_to (Ok (PagePacket p)) now n = Discovery
reply_to (Ok SyncPacket) now n = Sync
reply_to (Err fault) now n = Refused fault

-- all but a data packet of one of its universes leave the clock moved, and what is lost dropped
abbrev pub after_reading : Reading → ℕ → Core → Core
after_reading (Ok (DataPacket d)) now n = core_after d.universe (packet_of d) now n
after_reading (Ok (PagePacket p)) now n = core_at now n
after_reading (Ok SyncPacket) now n = core_at now n
after_reading (Err fault) now n = core_at now n
