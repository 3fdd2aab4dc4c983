-- What a datagram does to the sources of one universe.
use Rattle.std.specs.Prelude.{ℕ, List, [], replicate, Option, Some, None, is_none, Result, Ok, Err}
use Rattle.sacn_packets.specs.declared.root.fault.PacketFault.{PacketFault}
use Rattle.sacn_packets.specs.declared.framing.packet.Packet.{Packet}
use Rattle.sacn_packets.specs.declared.framing.packet.Packet.TheVariants.{DataPacket, PagePacket, SyncPacket}
use Rattle.sacn_sources.specs.Packets.{packet_of}
use Rattle.sacn_sources.specs.Rows.{Row, answer}
use Rattle.sacn_sources.specs.HeldViews.{priority_shown}
use Rattle.sacn_sources.specs.Merge.{Shown}
use Rattle.sacn_sources.specs.LatestMerge.{Kept, kept_after_take}
use Rattle.sacn_c.specs.Numbers.{taken_number}
use Rattle.sacn_c.specs.Packets.{bit_of}
use Rattle.sacn_c.specs.declared.sources.SourceFields.{SourceFields}

-- all but a data packet leaves them as they are
abbrev pub after_reading : ℕ → Result Packet PacketFault → Kept → Kept
after_reading now (Ok (DataPacket d)) k = kept_after_take now (packet_of d) k
after_reading now (Ok (PagePacket p)) k = k
after_reading now (Ok SyncPacket) k = k
after_reading now (Err fault) k = k

-- what C is told of a datagram, 0 where it is no packet
abbrev pub source_number : ℕ → Result Packet PacketFault → Kept → ℕ
source_number now (Ok (DataPacket d)) k = taken_number (answer now (packet_of d) k.table)
source_number now (Ok (PagePacket p)) k = 8
source_number now (Ok SyncPacket) k = 9
source_number now (Err fault) k = 0

-- what C is told of a source that is held
abbrev pub source_told : Row → SourceFields
source_told r = record { moment = r.moment; number = r.sequence_number; ended = bit_of (is_none r.shown); priority = priority_shown r.shown; unused = replicate 5 0 }

-- the levels that a source shows, and none where it has ended
abbrev pub levels_told : Option Shown → List ℕ
levels_told None = []
levels_told (Some shown) = shown.levels
