-- How C is given the universe numbers of a page, and what it asks to be written as one.
use Rattle.std.specs.Prelude.{ℕ, ◌<◌, List, length, Result, Ok, Err}
use Rattle.std.specs.List.Sorted.{IsStrictlyIncreasing}
use Rattle.sacn_packets.specs.PacketFaults.{fault_number}
use Rattle.sacn_packets.specs.declared.root.fault.PacketFault.{PacketFault}
use Rattle.sacn_packets.specs.declared.framing.packet.Packet.{Packet}
use Rattle.sacn_packets.specs.declared.framing.packet.Packet.TheVariants.{DataPacket, PagePacket, SyncPacket}
use Rattle.sacn_discovery.specs.Pages.{page_count}
use Rattle.sacn_c.specs.Rooms.{room_status, room_with}
use Rattle.sacn_c.specs.declared.packets.PacketFields.{PacketFields}
use Rattle.sacn_c.specs.declared.status.TheConstants.{RANGE}

-- the status: RANGE of a packet that is no page
abbrev pub universes_status : List ℕ → Result Packet PacketFault → ℕ
universes_status room (Ok (DataPacket d)) = RANGE
universes_status room (Ok (PagePacket p)) = room_status room p.numbers
universes_status room (Ok SyncPacket) = RANGE
universes_status room (Err fault) = fault_number fault

abbrev pub universes_count : ℕ → Result Packet PacketFault → ℕ
universes_count before (Ok (DataPacket d)) = before
universes_count before (Ok (PagePacket p)) = length p.numbers
universes_count before (Ok SyncPacket) = before
universes_count before (Err fault) = before

abbrev pub universes_room : List ℕ → Result Packet PacketFault → List ℕ
universes_room room (Ok (DataPacket d)) = room
universes_room room (Ok (PagePacket p)) = room_with room p.numbers
universes_room room (Ok SyncPacket) = room
universes_room room (Err fault) = room

-- a list that ascends, and one of its pages
abbrev pub IsPageOf : PacketFields → List ℕ → Type 0
IsPageOf f list = IsStrictlyIncreasing list × (f.page < page_count (length list))
