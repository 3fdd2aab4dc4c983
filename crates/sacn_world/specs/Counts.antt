-- The catch-up count of a node and a stream, over a run.
use Rattle.std.specs.Prelude.{◌≡◌, ℕ, ◌+◌, ◌==◌, ◌&&◌, if◌then◌else◌, List, [], ◌∷◌, slice_get, Option, Some, None, true}
use Rattle.sacn_packets.specs.declared.framing.packet.Packet.{Packet}
use Rattle.sacn_packets.specs.declared.framing.packet.Packet.TheVariants.{DataPacket, PagePacket, SyncPacket}
use Rattle.sacn_sources.specs.Order.{same}
use Rattle.sacn_node.specs.declared.answer.NodeTaken.{NodeTaken}
use Rattle.sacn_node.specs.declared.answer.NodeTaken.TheVariants.{FromTable, OtherUniverse, Discovery, Sync, Refused}
use Rattle.sacn_schedule.specs.declared.event.Event.{Event}
use Rattle.sacn_schedule.specs.declared.event.Event.TheVariants.{Order, Poll, Deliver, Look, RestartConsole, RestartNode, Noise}
use Rattle.sacn_world.specs.declared.fault.WorldFault.{WorldFault}
use Rattle.sacn_world.specs.declared.limits.TheConstants.{TOO_FAR_BEHIND}
use Rattle.sacn_world.specs.Streams.{Sent, at, is_live, stream_of, place_of}
use Rattle.sacn_world.specs.Holdings.{Hold, newest, refusal, hold_of}
use Rattle.sacn_world.specs.Nodes.{Holding, Node, holding_of, node_reply}
use Rattle.sacn_world.specs.CatchUp.{count_after}
use Rattle.sacn_world.specs.Worlds.{World, step, left_by}

-- the place of the stream that was delivered last, and the count
pub record Count : Type 0 where
  pub last : Option ℕ
  pub count : ℕ

-- so many live packets of one life in a row, 21, can't all be out of sequence
abbrev pub enough_in_a_row : ℕ
enough_in_a_row = TOO_FAR_BEHIND + 1

abbrev pub no_count : Count
no_count = record { last = None; count = 0 }

abbrev pub count_reply : List Sent → ℕ → NodeTaken → Count → Count
count_reply st q (FromTable a) c = record { last = Some q; count = count_after st c.last q a c.count }
count_reply st q OtherUniverse c = c
count_reply st q Discovery c = c
count_reply st q Sync c = c
count_reply st q (Refused fault) c = c

-- place q of the stream of r and v came to node n
abbrev pub count_come : World → List ℕ → ℕ → ℕ → Node → List ℕ → ℕ → ℕ → Option WorldFault → Count → Count
count_come w s u m n r v q (Some fault) c = c
count_come w s u m n r v q None c = if same s r && (v == u) then count_reply (stream_of s u w.sent) q (node_reply w.sent r v q m n) c else c

abbrev pub count_arrive : World → List ℕ → ℕ → ℕ → ℕ → Node → List ℕ → Packet → Count → Count
count_arrive w s u k m n r (DataPacket d) c =
    let q = place_of r d.universe k w.sent in
    count_come w s u m n r d.universe q (refusal (stream_of r d.universe w.sent) (newest r d.universe n.delivered) q) c
count_arrive w s u k m n r (PagePacket p) c = c
count_arrive w s u k m n r SyncPacket c = c

abbrev pub count_deliver : World → List ℕ → ℕ → ℕ → ℕ → Option Node → Option Sent → Count → Count
count_deliver w s u k m None o c = c
count_deliver w s u k m (Some n) None c = c
count_deliver w s u k m (Some n) (Some x) c = count_arrive w s u k m n x.source x.packet c

-- the count of node i and the stream of s and u after an event
unfoldable pub count_step : World → ℕ → List ℕ → ℕ → Event → Count → Count
count_step w i s u (Order j m k) c = c
count_step w i s u (Poll j m) c = c
count_step w i s u (Deliver k j m) c = if j == i then count_deliver w s u k m (slice_get w.nodes i) (slice_get w.sent k) c else c
count_step w i s u (Look j port m) c = c
count_step w i s u (RestartConsole j first) c = c
count_step w i s u (RestartNode j) c = if j == i then no_count else c
count_step w i s u (Noise j m octets) c = c

-- after a list of events
abbrev pub count_run : World → ℕ → List ℕ → ℕ → List Event → Count → Count
count_run w i s u [] c = c
count_run w i s u (e ∷ es) c = count_run (left_by w (step w e)) i s u es (count_step w i s u e c)

-- node i shows place q of the stream of s and u
pub record Shows (w : World) (i : ℕ) (s : List ℕ) (u q : ℕ) : Type 0 where
  pub node : Node
  pub is_node : slice_get w.nodes i ≡ Some node
  pub holding : Holding
  pub is_holding : holding_of u node.holdings ≡ Some holding
  pub hold : Hold
  pub is_hold : hold_of s holding.held ≡ Some hold
  pub place : hold.place ≡ q
  pub live : is_live (at (stream_of s u w.sent) q) ≡ true
