-- What a recorder hears, and what of it is asked for. Lists of receives and of rounds have the latest first.
use Rattle.std.specs.Prelude.{ℕ, Bool, true, List, [], ◌∷◌, ◌++◌, take, length, Option, None, Some, Ok, Err, ◌||◌, ◌==◌, if◌then◌else◌}
use Rattle.std.specs.List.{list_any}
use Rattle.sacn_packets.specs.Naming.{group_of}
use Rattle.sacn_packets.specs.PacketReading.{Reading, reading_packet}
use Rattle.sacn_packets.specs.declared.framing.packet.Packet.TheVariants.{DataPacket, PagePacket, SyncPacket}
use Rattle.sacn_capture.specs.Frames.{Sent}
use Rattle.sacn_record.specs.declared.wire.Arrived.{Arrived}
use Rattle.sacn_record.specs.declared.wire.Caught.{Caught}
use Rattle.sacn_record.specs.declared.plan.RecordPlan.{RecordPlan}
use Rattle.sacn_record.specs.declared.plan.TheConstants.{DISCOVERY}
use Rattle.sacn_record.specs.Recordings.{Taken}

-- a datagram that came at a moment, in microseconds since 1970, from a sender
pub record Datagram : Type 0 where
  pub moment : ℕ
  pub sender : List ℕ
  pub sender_port : ℕ
  pub payload : List ℕ

-- the reading of a clock, in milliseconds, and what a receive brought at it
pub record Catch : Type 0 where
  pub now : ℕ
  pub datagram : Option Datagram

abbrev pub datagram_at : Arrived → List ℕ → Datagram
datagram_at a payload = record { moment = a.moment; sender = a.sender; sender_port = a.sender_port; payload = payload }

-- what an answer of `receive` says of the buffer
abbrev pub datagram_of : Option Arrived → List ℕ → Option Datagram
datagram_of None buffer = None
datagram_of (Some a) buffer = Some (datagram_at a (take a.octets buffer))

abbrev pub catch_of : Caught → List ℕ → Catch
catch_of c buffer = record { now = c.now; datagram = datagram_of c.arrived buffer }

-- ---- in the order of the calls

abbrev pub in_order : List Catch → List Catch
in_order [] = []
in_order (c ∷ cs) = in_order cs ++ c ∷ []

-- what was caught in all rounds
abbrev pub caught_by : List (List Catch) → List Catch
caught_by [] = []
caught_by (cs ∷ rounds) = caught_by rounds ++ in_order cs

-- the latest reading, after one at which a round began
abbrev pub reading_after : ℕ → List Catch → ℕ
reading_after start [] = start
reading_after start (c ∷ cs) = c.now

abbrev pub reading_by : List (List Catch) → ℕ
reading_by [] = 0
reading_by (cs ∷ rounds) = reading_after (reading_by rounds) cs

-- ---- what is asked for, and where it was sent to

-- every universe where none is named, else the named ones
abbrev pub is_named : List ℕ → ℕ → Bool
is_named universes universe = (length universes == 0) || list_any (λ named. named == universe) universes

-- data packets are asked for by their universe; anything else always is
abbrev pub is_asked : List ℕ → Reading → Bool
is_asked universes (Ok (DataPacket d)) = is_named universes d.universe
is_asked universes (Ok (PagePacket p)) = true
is_asked universes (Ok SyncPacket) = true
is_asked universes (Err fault) = true

-- the group of the packet's universe, of a page that of universe discovery (E1.31, 9.3.1); of anything else the address that is listened at
abbrev pub destination_of : List ℕ → Reading → List ℕ
destination_of host (Ok (DataPacket d)) = group_of d.universe
destination_of host (Ok (PagePacket p)) = group_of DISCOVERY
destination_of host (Ok SyncPacket) = host
destination_of host (Err fault) = host

-- a datagram as it is recorded
abbrev pub taken_by : RecordPlan → Datagram → Taken
taken_by plan d = record {
  moment = d.moment;
  sent = record {
    sender = d.sender;
    sender_port = d.sender_port;
    destination = destination_of plan.host (reading_packet d.payload);
    destination_port = plan.port;
    payload = d.payload;
  };
}

abbrev pub asked_of : RecordPlan → Option Datagram → List Taken
asked_of plan None = []
asked_of plan (Some d) = if is_asked plan.universes.now (reading_packet d.payload) then taken_by plan d ∷ [] else []

-- those of some receives that are asked for, in order
abbrev pub asked_in : RecordPlan → List Catch → List Taken
asked_in plan [] = []
asked_in plan (c ∷ cs) = asked_in plan cs ++ asked_of plan c.datagram

-- those of all rounds
abbrev pub asked_by : RecordPlan → List (List Catch) → List Taken
asked_by plan [] = []
asked_by plan (cs ∷ rounds) = asked_by plan rounds ++ asked_in plan cs
