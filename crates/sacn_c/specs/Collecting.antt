-- What a datagram does to a collector, and how C is given a list.
use Rattle.std.specs.Prelude.{◌≡◌, ◌==◌, ℕ, List, length, take, Option, Some, None, Result, Ok, Err, if◌then◌else◌}
use Rattle.sacn_packets.specs.PacketFaults.{fault_number}
use Rattle.sacn_packets.specs.declared.root.fault.PacketFault.{PacketFault}
use Rattle.sacn_packets.specs.declared.framing.packet.Packet.{Packet}
use Rattle.sacn_packets.specs.declared.framing.packet.Packet.TheVariants.{DataPacket, PagePacket, SyncPacket}
use Rattle.sacn_c.specs.Rooms.{room_status, room_with}
use Rattle.sacn_c.specs.declared.status.TheConstants.{DONE, RANGE, OUT_OF_MEMORY}
use Rattle.sacn_discovery.specs.Collection.{State, after_take, after_expire}

-- all but a page leaves it as it is
abbrev pub after_reading : ℕ → Result Packet PacketFault → State → State
after_reading now (Ok (DataPacket d)) s = s
after_reading now (Ok (PagePacket p)) s = after_take now p s
after_reading now (Ok SyncPacket) s = s
after_reading now (Err fault) s = s

-- the list stands at the front of the room, and its length is told
abbrev pub ShowsList : {X : Type 0} → List X → ℕ → List X → Type 0
ShowsList list count room = (count ≡ length list) × (take count room ≡ list)

-- the status of a datagram; of a page whether there was memory for it
abbrev pub collect_status : Result Packet PacketFault → ℕ → ℕ
collect_status (Ok (DataPacket d)) status = DONE
collect_status (Ok (PagePacket p)) status = if status == DONE then DONE else OUT_OF_MEMORY
collect_status (Ok SyncPacket) status = DONE
collect_status (Err fault) status = fault_number fault

-- the collector after it, by the status: a page for which there was no memory isn't kept
abbrev pub collected : ℕ → ℕ → Result Packet PacketFault → State → State
collected status now (Ok (DataPacket d)) s = s
collected status now (Ok (PagePacket p)) s = if status == DONE then after_take now p s else after_expire now s
collected status now (Ok SyncPacket) s = s
collected status now (Err fault) s = s

-- the status of a list in a room, want of memory apart
abbrev pub list_status : List ℕ → Option (List ℕ) → ℕ
list_status room None = RANGE
list_status room (Some list) = room_status room list

-- how long a list is
abbrev pub list_count : ℕ → Option (List ℕ) → ℕ
list_count before None = before
list_count before (Some list) = length list

abbrev pub list_room : List ℕ → Option (List ℕ) → List ℕ
list_room room None = room
list_room room (Some list) = room_with room list
