-- A node that runs in its loop is a node of a world.
use Rattle.std.specs.Prelude.{◌≡◌, ℕ, max, ◌==◌, if◌then◌else◌, List, [], ◌∷◌, map, slice_get, Option, Some, None}
use Rattle.sacn_node.specs.Setup.{Port, port_numbers}
use Rattle.sacn_node.specs.Cores as core
use Rattle.sacn_schedule.specs.Cids.{Desk}
use Rattle.sacn_schedule.specs.declared.event.Event.{Event}
use Rattle.sacn_schedule.specs.declared.event.Event.TheVariants.{Order, Poll, Deliver, Look, RestartConsole, RestartNode, Noise}
use Rattle.sacn_edge.specs.NodeText.{Turn, FrameLine, with_frame, node_after, lines_after, text_of, node_text}
use Rattle.sacn_world.specs.declared.answer.Answer.{Answer}
use Rattle.sacn_world.specs.declared.answer.Answer.TheVariants.{Ordered, Sent, Idle, Taken, Shown, NoSuchPort, Restarted}
use Rattle.sacn_world.specs.Streams as stream
use Rattle.sacn_world.specs.Nodes.{Node, node_of, seen_core}
use Rattle.sacn_world.specs.Worlds.{World, new_console, Apart}
use Rattle.sacn_world.specs.Runs.{Ran, ran}
use Rattle.sacn_world.specs.Laws.{reached}
use Rattle.sacn_runs.specs.NodeVisits.{visits, loop_visits}

-- ---- the lines that the looks at a node of a world ask for

-- node i's moment in use, with an event more
abbrev pub moment_with : ℕ → Event → ℕ → ℕ
moment_with i (Order j m k) t = t
moment_with i (Poll j m) t = t
moment_with i (Deliver k j m) t = if j == i then max t m else t
moment_with i (Look j port m) t = if j == i then max t m else t
moment_with i (RestartConsole j first) t = t
moment_with i (RestartNode j) t = if j == i then 0 else t
moment_with i (Noise j m octets) t = if j == i then max t m else t

abbrev pub frame_told : Answer → Option (List ℕ)
frame_told (Shown frame) = Some frame
frame_told NoSuchPort = None
frame_told (Ordered r) = None
frame_told (Sent k) = None
frame_told Idle = None
frame_told (Taken t) = None
frame_told Restarted = None

-- the lines, with one more for a look at node i at its moment t whose frame isn't that of the port's latest line
abbrev pub line_with : ℕ → ℕ → Event → Answer → List FrameLine → List FrameLine
line_with i t (Order j m k) a ls = ls
line_with i t (Poll j m) a ls = ls
line_with i t (Deliver k j m) a ls = ls
line_with i t (Look j port m) a ls = if j == i then with_frame port t (frame_told a) ls else ls
line_with i t (RestartConsole j first) a ls = ls
line_with i t (RestartNode j) a ls = ls
line_with i t (Noise j m octets) a ls = ls

-- the lines of node i over events and their answers, from these lines on, the latest first; t is the node's moment at first
abbrev pub lines_shown : ℕ → ℕ → List Event → List Answer → List FrameLine → List FrameLine
lines_shown i t [] answers ls = ls
lines_shown i t (e ∷ es) [] ls = ls
lines_shown i t (e ∷ es) (a ∷ answers) ls = lines_shown i (moment_with i e t) es answers (line_with i (moment_with i e t) e a ls)

-- ---- the law

-- a node of a world as the core that reads octets and knows eight-bit numbers alone
abbrev pub seen_node : List stream.Sent → Node → core.Node
seen_node sent n = record { ports = n.ports; core = seen_core sent n }

-- node i of world w, over events that were answered so, is the node that made these turns
pub record RunsAs (w v : World) (i : ℕ) (n : Node) (events : List Event) (answers : List Answer) (ts : List Turn) : Type 0 where
  -- the looks ask for exactly the lines that the loop writes
  pub lines : lines_shown i n.moment events answers [] ≡ lines_after (seen_node w.sent n) ts
  pub text : text_of (lines_shown i n.moment events answers []) ≡ node_text (seen_node w.sent n) ts
  -- and what the world's node then keeps is what the loop leaves
  pub left : (l : Node) → slice_get v.nodes i ≡ Some l → seen_node v.sent l ≡ node_after (seen_node w.sent n) ts

pub record NodesRunAsInAWorld : Type 0 where
  -- From any world on, over any events that it accepts, whatever they are to its other nodes and its consoles: where what comes
  -- to node i is what came in the turns of a loop, the loop writes what the node's looks were answered
  pub runs :
      (shows : List Desk) (setups : List (List Port)) (earlier events : List Event) (run : Ran) (i : ℕ) (n : Node) (ts : List Turn) →
      Apart (map new_console shows) →
      let w = reached shows setups earlier in
      ran w events ≡ Some run → slice_get w.nodes i ≡ Some n → visits w i events ≡ loop_visits (port_numbers n.ports) ts →
      RunsAs w run.world i n events run.answers ts
  -- a node of a world that begins, or starts anew, is a new core
  pub begins : (sent : List stream.Sent) (ports : List Port) → seen_node sent (node_of ports) ≡ core.new_node ports
