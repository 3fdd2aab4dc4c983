-- A datagram at a node, in three parts: whether it may come, what the node answers, and what it leaves.
use Rattle.std.specs.Prelude.{ℕ, List, Option, Some, None, Ok, Err}
use Rattle.sacn_packets.specs.declared.framing.packet.Packet.{Packet}
use Rattle.sacn_packets.specs.declared.framing.packet.Packet.TheVariants.{DataPacket, PagePacket, SyncPacket}
use Rattle.sacn_node.specs.declared.answer.NodeTaken.{NodeTaken}
use Rattle.sacn_node.specs.declared.answer.NodeTaken.TheVariants.{Discovery, Sync}
use Rattle.sacn_world.specs.declared.answer.Answer.TheVariants as answered
use Rattle.sacn_world.specs.declared.fault.WorldFault.{WorldFault}
use Rattle.sacn_world.specs.Streams.{Sent, stream_of, place_of}
use Rattle.sacn_world.specs.Holdings.{newest, refusal}
use Rattle.sacn_world.specs.Nodes.{Node, node_reply, node_after, node_at}
use Rattle.sacn_world.specs.Worlds.{World, Step, with_node}

-- where sent is all that was sent, and the packet is datagram k of the source s
abbrev pub refused_for : List Sent → ℕ → Node → List ℕ → Packet → Option WorldFault
refused_for sent k n s (DataPacket d) = refusal (stream_of s d.universe sent) (newest s d.universe n.delivered) (place_of s d.universe k sent)
refused_for sent k n s (PagePacket p) = None
refused_for sent k n s SyncPacket = None

abbrev pub replied : List Sent → ℕ → ℕ → Node → List ℕ → Packet → NodeTaken
replied sent k m n s (DataPacket d) = node_reply sent s d.universe (place_of s d.universe k sent) m n
replied sent k m n s (PagePacket p) = Discovery
replied sent k m n s SyncPacket = Sync

abbrev pub moved : List Sent → ℕ → ℕ → Node → List ℕ → Packet → Node
moved sent k m n s (DataPacket d) = node_after sent s d.universe (place_of s d.universe k sent) m n
moved sent k m n s (PagePacket p) = node_at m n
moved sent k m n s SyncPacket = node_at m n

abbrev pub arrival : World → ℕ → Option WorldFault → NodeTaken → Node → Step
arrival w i (Some fault) reply n = Err fault
arrival w i None reply n = Ok (record { answer = answered.Taken reply; world = with_node w i n })
