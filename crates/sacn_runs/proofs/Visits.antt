-- What visits make of a node core and of its lines.
use Rattle.std.proofs.Common.{◌≡◌, ℕ, max, List, [], ◌∷◌, ◌++◌, Option, Some, None, Ok, Err, refl}
use Rattle.sacn_packets.specs.declared.framing.packet.Packet.{Packet}
use Rattle.sacn_packets.specs.declared.framing.packet.Packet.TheVariants.{DataPacket, PagePacket, SyncPacket}
use Rattle.sacn_node.specs.Setup.{Port, universes}
use Rattle.sacn_node.specs.Cores.{Core, Node, new_core, core_at, node_frame}
use Rattle.sacn_node.specs.Readings.{Reading, after_reading}
use Rattle.sacn_edge.specs.NodeText.{FrameLine, with_frame}
use Rattle.sacn_runs.specs.NodeVisits.{Visit, Came, Asked, Began}

pub record Showing : Type 0 where
  pub core : Core
  pub lines : List FrameLine

abbrev pub node_with : List Port → Core → Node
node_with ports c = record { ports = ports; core = c }

abbrev pub core_after_visit : ℕ → Option Packet → Core → Core
core_after_visit m (Some p) c = after_reading (Ok p) m c
core_after_visit m None c = core_at m c

abbrev pub asked : List Port → ℕ → Core → List FrameLine → Showing
asked ports port c ls = record { core = c; lines = with_frame port c.moment (node_frame port (node_with ports c)) ls }

abbrev pub shown_by : List Port → Visit → Showing → Showing
shown_by ports (Came m o) s = record { core = core_after_visit m o s.core; lines = s.lines }
shown_by ports (Asked m port) s = asked ports port (core_at m s.core) s.lines
shown_by ports Began s = record { core = new_core (universes ports); lines = s.lines }

abbrev pub show_all : List Port → List Visit → Showing → Showing
show_all ports [] s = s
show_all ports (v ∷ vs) s = show_all ports vs (shown_by ports v s)

pub show_all-append : (ports : List Port) (xs ys : List Visit) (s : Showing) → show_all ports (xs ++ ys) s ≡ show_all ports ys (show_all ports xs s)
show_all-append ports [] ys s = refl
show_all-append ports (v ∷ xs) ys s = show_all-append ports xs ys (shown_by ports v s)

pub reading_moment : (r : Reading) (m : ℕ) (c : Core) → (after_reading r m c).moment ≡ max c.moment m
reading_moment (Ok (DataPacket d)) m c = refl
reading_moment (Ok (PagePacket p)) m c = refl
reading_moment (Ok SyncPacket) m c = refl
reading_moment (Err fault) m c = refl

pub came_moment : (m : ℕ) (o : Option Packet) (c : Core) → (core_after_visit m o c).moment ≡ max c.moment m
came_moment m (Some p) c = reading_moment (Ok p) m c
came_moment m None c = refl
