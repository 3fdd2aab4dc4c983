-- How a desk opens the stream of a universe, so that it is taken whatever came before (E1.31, 6.7.2).
use Rattle.std.specs.Prelude.{◌≡◌, ℕ, ◌+◌, ◌-◌, ◌%◌, ◌<◌, nat_le, nat_lt, Bool, true, false, not, ◌&&◌, List, [], ◌∷◌, length, get_or, replicate, set, Result, Ok, Err, if◌then◌else◌}
use Rattle.sacn_packets.specs.declared.root.fault.PacketFault.{PacketFault}
use Rattle.sacn_packets.specs.PacketReading.{reading_packet}
use Rattle.sacn_packets.specs.declared.framing.packet.Packet.{Packet}
use Rattle.sacn_packets.specs.declared.framing.packet.Packet.TheVariants.{DataPacket, PagePacket, SyncPacket}
use Rattle.sacn_sources.specs.Sequence.{is_late}
use Rattle.sacn_console.specs.declared.limits.TheConstants.{MAX_DATAGRAM}
use Rattle.sacn_edge.specs.ConsoleSends.{Handed}
use Rattle.sacn_desk.specs.declared.opening.Opening.{Opening}
use Rattle.sacn_desk.specs.declared.opening.TheConstants.{OPENING_STEP, NUMBER_AT, UNIVERSES}

abbrev pub link_of : {L : Type 0} → Opening L → L
link_of opening = opening.link

-- for each universe, whether a packet of it went out
abbrev pub begun_of : {L : Type 0} → Opening L → List Bool
begun_of opening = opening.begun.items

abbrev pub none_begun : List Bool
none_begun = replicate UNIVERSES false

-- ---- the copy

-- the number of the copy that goes before a packet
abbrev pub opening_number : ℕ → ℕ
opening_number number = (number + 256 - OPENING_STEP) % 256

-- the copy is the packet with another number
abbrev pub opening_copy : List ℕ → List ℕ
opening_copy octets = set octets NUMBER_AT (opening_number (get_or octets NUMBER_AT 0))

-- ---- what goes out

-- on its universe nothing went out yet
abbrev pub begins_by : ℕ → List Bool → Bool
begins_by universe begun = nat_lt universe (length begun) && not (get_or begun universe true)

abbrev pub begun_by : ℕ → List Bool → List Bool
begun_by universe begun = if begins_by universe begun then set begun universe true else begun

-- it has the room of a packet
abbrev pub has_room : List ℕ → Bool
has_room octets = nat_lt NUMBER_AT (length octets) && nat_le (length octets) MAX_DATAGRAM

abbrev pub begins_read : Result Packet PacketFault → List Bool → Bool
begins_read (Ok (DataPacket d)) begun = begins_by d.universe begun
begins_read (Ok (PagePacket p)) begun = false
begins_read (Ok SyncPacket) begun = false
begins_read (Err fault) begun = false

abbrev pub begun_read : Result Packet PacketFault → List Bool → List Bool
begun_read (Ok (DataPacket d)) begun = begun_by d.universe begun
begun_read (Ok (PagePacket p)) begun = begun
begun_read (Ok SyncPacket) begun = begun
begun_read (Err fault) begun = begun

-- a datagram is the first packet of its universe
abbrev pub begins : List Bool → List ℕ → Bool
begins begun octets = has_room octets && begins_read (reading_packet octets) begun

abbrev pub begun_after : List Bool → List ℕ → List Bool
begun_after begun octets = if has_room octets then begun_read (reading_packet octets) begun else begun

-- what is handed over for a datagram that got this answer: before one that begins a stream its copy, whatever is answered there
abbrev pub IsHanded : Bool → List ℕ → Bool → Handed → Type 0
IsHanded true octets taken handed = (answer : Bool) × (handed ≡ (opening_copy octets, answer) ∷ (octets, taken) ∷ [])
IsHanded false octets taken handed = handed ≡ (octets, taken) ∷ []

-- ---- the law

-- the number that a receiver holds after a packet
abbrev pub held_after : ℕ → ℕ → ℕ
held_after held arrived = if is_late held arrived then held else arrived

-- Whatever number a receiver holds of an earlier life, however that ended: behind its copy it takes a stream's first packet.
abbrev pub FirstPacketsAreTaken : Type 0
FirstPacketsAreTaken = (held number : ℕ) → held < 256 → number < 256 → is_late (held_after held (opening_number number)) number ≡ false
