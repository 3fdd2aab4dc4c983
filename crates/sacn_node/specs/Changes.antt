-- What a datagram may change of what a node shows, and which ports show it.
use Rattle.std.specs.Prelude.{◌≡◌, ◌≢◌, ℕ, ◌==◌, Bool, false, List, Option, None, Some, Ok, Err}
use Rattle.std.specs.List.{list_any}
use Rattle.sacn_packets.specs.declared.framing.packet.Packet.TheVariants.{DataPacket, PagePacket, SyncPacket}
use Rattle.sacn_sources.specs.Packets.{packet_of}
use Rattle.sacn_sources.specs.declared.answer.Taken.TheVariants.{Held, Observed, EndedNow, OutOfSequence, SourcesExceeded, UnknownIgnored}
use Rattle.sacn_node.specs.declared.answer.NodeTaken.{NodeTaken}
use Rattle.sacn_node.specs.declared.answer.NodeTaken.TheVariants.{FromTable, OtherUniverse, Discovery, Sync, Refused}
use Rattle.sacn_node.specs.Setup.{Port}
use Rattle.sacn_node.specs.Ports.{port_of}
use Rattle.sacn_node.specs.Cores.{Core, Node, core_reply, core_at, core_slots, node_frame}
use Rattle.sacn_node.specs.Readings.{Reading, after_reading}

-- the universe of a packet that is answered so, where its table took it
abbrev pub universe_by : ℕ → NodeTaken → Option ℕ
universe_by u (FromTable Held) = Some u
universe_by u (FromTable EndedNow) = Some u
universe_by u (FromTable Observed) = Some u
universe_by u (FromTable OutOfSequence) = None
universe_by u (FromTable SourcesExceeded) = None
universe_by u (FromTable UnknownIgnored) = None
universe_by u OtherUniverse = None
universe_by u Discovery = None
universe_by u Sync = None
universe_by u (Refused fault) = None

-- the universe of which octets may change the slots, beside what is lost
abbrev pub universe_changed : Reading → ℕ → Core → Option ℕ
universe_changed (Ok (DataPacket d)) now n = universe_by d.universe (core_reply d.universe (packet_of d) now n)
universe_changed (Ok (PagePacket p)) now n = None
universe_changed (Ok SyncPacket) now n = None
universe_changed (Err fault) now n = None

-- a port shows one of these universes
abbrev pub shows_on : List ℕ → Option Port → Bool
shows_on us None = false
shows_on us (Some p) = list_any (λ r. list_any (λ u. u == r.universe) us) p.ranges

abbrev pub node_shows : ℕ → List ℕ → Node → Bool
node_shows number us n = shows_on us (port_of number n.ports)

-- Octets leave the slots of each universe but the one that is told as expiry alone leaves them.
abbrev pub SlotsAreKept : Type 0
SlotsAreKept = (reading : Reading) (now u : ℕ) (c : Core) → universe_changed reading now c ≢ Some u →
    core_slots (after_reading reading now c) u ≡ core_slots (core_at now c) u

-- Where the slots of some universes alone differ, a port that shows none of these has the frame that it had.
abbrev pub FramesAreKept : Type 0
FramesAreKept =
    (number : ℕ) (us : List ℕ) (n m : Node)
    → m.ports ≡ n.ports
    → ((u : ℕ) → list_any (λ v. v == u) us ≡ false → core_slots m.core u ≡ core_slots n.core u)
    → node_shows number us n ≡ false
    → node_frame number m ≡ node_frame number n
