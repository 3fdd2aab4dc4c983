-- What a desk that stands by keeps back: the end of a stream of which nothing went out (E1.31, 6.2.6).
use Rattle.std.specs.Prelude.{◌≡◌, ℕ, Bool, true, false, ◌&&◌, List, [], ◌∷◌, Result, Ok, Err, if◌then◌else◌}
use Rattle.sacn_packets.specs.PacketReading.{Reading, reading_packet}
use Rattle.sacn_packets.specs.declared.framing.packet.Packet.TheVariants.{DataPacket, PagePacket, SyncPacket}
use Rattle.sacn_edge.specs.ConsoleSends.{Handed}
use Rattle.sacn_desk.specs.Openings.{begins_by, begun_by}
use Rattle.sacn_desk.specs.declared.standby.Standby.{Standby}

abbrev pub link_below : {L : Type 0} → Standby L → L
link_below standby = standby.link

-- for each universe, whether a packet of it went out
abbrev pub gone_out : {L : Type 0} → Standby L → List Bool
gone_out standby = standby.begun.items

-- a packet with Stream_Terminated set is kept back where nothing of its universe went out
abbrev pub is_kept_by : ℕ → Bool → List Bool → Bool
is_kept_by universe ends begun = ends && begins_by universe begun

abbrev pub is_kept_read : Reading → List Bool → Bool
is_kept_read (Ok (DataPacket d)) begun = is_kept_by d.universe d.terminated begun
is_kept_read (Ok (PagePacket p)) begun = false
is_kept_read (Ok SyncPacket) begun = false
is_kept_read (Err fault) begun = false

abbrev pub is_kept : List Bool → List ℕ → Bool
is_kept begun octets = is_kept_read (reading_packet octets) begun

-- each other packet goes out
abbrev pub gone_by : ℕ → Bool → List Bool → List Bool
gone_by universe ends begun = if is_kept_by universe ends begun then begun else begun_by universe begun

abbrev pub gone_read : Reading → List Bool → List Bool
gone_read (Ok (DataPacket d)) begun = gone_by d.universe d.terminated begun
gone_read (Ok (PagePacket p)) begun = begun
gone_read (Ok SyncPacket) begun = begun
gone_read (Err fault) begun = begun

abbrev pub gone_after : List Bool → List ℕ → List Bool
gone_after begun octets = gone_read (reading_packet octets) begun

-- what is handed on of a datagram that got this answer
abbrev pub passed : Bool → List ℕ → Bool → Handed
passed true octets taken = []
passed false octets taken = (octets, taken) ∷ []
