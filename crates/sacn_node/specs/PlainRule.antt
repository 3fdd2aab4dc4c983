-- The plain rule of a node: what it answers and holds after a history of calls, in one finite map from universes and CIDs,
-- that is, in a finite map by CID for each universe. A source has the number of its latest accepted packet, what it shows
-- (nothing once it has ended), and its moment; the rows of the source table are those of the plain rule of one universe.
use Rattle.std.specs.Prelude.{ℕ, ◌-◌, ◌==◌, Bool, List, [], ◌∷◌, if◌then◌else◌, Option, Some, None, Ok, Err}
use Rattle.std.specs.List.{list_any, sum_by}
use Rattle.std.specs.FinMap.{empty, len}
use Rattle.sacn_packets.specs.PacketReading.{reading_packet}
use Rattle.sacn_packets.specs.declared.framing.packet.Packet.TheVariants.{DataPacket, PagePacket, SyncPacket}
use Rattle.sacn_sources.specs.Merge.{merge}
use Rattle.sacn_sources.specs.Packets.{packet_of}
use Rattle.sacn_sources.specs.Rows.{Packet}
use Rattle.sacn_sources.specs.PlainRule.{Sources, unexpired, source_row, shown_by}
use Rattle.sacn_node.specs.declared.answer.NodeTaken.{NodeTaken}
use Rattle.sacn_node.specs.declared.answer.NodeTaken.TheVariants.{FromTable, OtherUniverse, Discovery, Sync, Refused}
use Rattle.sacn_node.specs.Setup.{Port, universes}
use Rattle.sacn_node.specs.Ports.{port_of, frame_on}
use Rattle.sacn_node.specs.Readings.{Reading}
use Rattle.sacn_node.specs.Calls.{Call, Take, Tick, Frame, Answer, Replied, Lost, Shown, moment_in_use}

-- the packet that octets bring to universe u, by their reading
abbrev pub packet_on : ℕ → Reading → Option Packet
packet_on u (Ok (DataPacket d)) = if d.universe == u then Some (packet_of d) else None
packet_on u (Ok (PagePacket p)) = None
packet_on u (Ok SyncPacket) = None
packet_on u (Err fault) = None

abbrev pub brought : ℕ → Call → Option Packet
brought u (Take now octets) = packet_on u (reading_packet octets)
brought u (Tick now) = None
brought u (Frame now port) = None

abbrev pub change : ℕ → Option Packet → Sources → Sources
change t None held = held
change t (Some x) held = (source_row t x held).held

-- what is held on a universe after a history
abbrev pub held_after : ℕ → List Call → Sources
held_after u [] = empty
held_after u (call ∷ earlier) = let t = moment_in_use (call ∷ earlier) in change t (brought u call) (unexpired t (held_after u earlier))

-- the universes of a node are those that some range names; on the others it holds nothing
abbrev pub has_universe : List Port → ℕ → Bool
has_universe ports u = list_any (λ v. v == u) (universes ports)

abbrev pub holding : List Port → List Call → ℕ → Sources
holding ports calls u = if has_universe ports u then held_after u calls else empty

-- ---- the answer to a call at t, over what was held before it

abbrev pub reply_at : List Port → ℕ → Reading → (ℕ → Sources) → NodeTaken
reply_at ports t (Ok (DataPacket d)) held =
    if has_universe ports d.universe then FromTable (source_row t (packet_of d) (unexpired t (held d.universe))).answer else OtherUniverse
reply_at ports t (Ok (PagePacket p)) held = Discovery
reply_at ports t (Ok SyncPacket) held = Sync
reply_at ports t (Err fault) held = Refused fault

-- how many sources of a universe expire at t
abbrev pub expired_at : ℕ → Sources → ℕ
expired_at t held = len held - len (unexpired t held)

-- the merge of what is shown at t
abbrev pub merged_at : ℕ → Sources → List ℕ
merged_at t held = merge (shown_by (unexpired t held))

abbrev pub answer_at : List Port → ℕ → Call → (ℕ → Sources) → Answer
answer_at ports t (Take now octets) held = Replied (reply_at ports t (reading_packet octets) held)
answer_at ports t (Tick now) held = Lost (sum_by (λ u. expired_at t (held u)) (universes ports))
answer_at ports t (Frame now port) held = Shown (frame_on (λ u. merged_at t (held u)) (port_of port ports))

-- the answer to a call after a history
abbrev pub plain_rule : List Port → Call → List Call → Answer
plain_rule ports call earlier = answer_at ports (moment_in_use (call ∷ earlier)) call (holding ports earlier)
