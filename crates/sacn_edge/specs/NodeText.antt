-- What a node writes over what a link brought and a clock read (profile). Lists of turns and lines have the latest first.
use Rattle.std.specs.Prelude.{ℕ, ◌==◌, List, [], ◌∷◌, ◌++◌, codes, if◌then◌else◌, Option, None, Some}
use Rattle.std.specs.Fmt.{decimal}
use Rattle.hex.specs.Hex.{encode_lower}
use Rattle.sacn_node.specs.Setup.{port_numbers}
use Rattle.sacn_node.specs.Cores.{Node, node_frame}
use Rattle.sacn_node.specs.Calls.{Call, Take, Tick, step}
use Rattle.sacn_node.specs.Showings.{is_shown}
use Rattle.sacn_edge.specs.Hearings.{Heard, Silence, Octets, Fault}

-- a turn: what the clock read, and what the receive brought
pub record Turn : Type 0 where
  pub now : ℕ
  pub heard : Heard

-- a datagram goes to the node's `take`; where nothing came, or the link failed, `tick` moves its clock
abbrev pub call_at : ℕ → Heard → Call
call_at now Silence = Tick now
call_at now (Octets octets) = Take now octets
call_at now Fault = Tick now

-- the node after some turns, from the one that was handed in
abbrev pub node_after : Node → List Turn → Node
node_after first [] = first
node_after first (t ∷ ts) = step (call_at t.now t.heard) (node_after first ts)

-- ---- lines

-- a line: the port, the node's moment in use, and the port's frame
pub record FrameLine : Type 0 where
  pub port : ℕ
  pub moment : ℕ
  pub frame : List ℕ

unfoldable pub line_text : FrameLine → List ℕ
line_text l = decimal l.port ++ codes " " ++ decimal l.moment ++ codes " " ++ encode_lower l.frame ++ codes "\n"

-- the frame of the latest line of a port
abbrev pub last_frame : ℕ → List FrameLine → Option (List ℕ)
last_frame port [] = None
last_frame port (l ∷ ls) = if l.port == port then Some l.frame else last_frame port ls

-- the lines, with one more where this frame of a port differs from that of its latest line, or it has none
abbrev pub with_frame : ℕ → ℕ → Option (List ℕ) → List FrameLine → List FrameLine
with_frame port moment None ls = ls
with_frame port moment (Some frame) ls =
    if is_shown (last_frame port ls) frame then ls else record { port = port; moment = moment; frame = frame } ∷ ls

-- the same for each of some ports of a node
abbrev pub with_ports : Node → List ℕ → List FrameLine → List FrameLine
with_ports n [] ls = ls
with_ports n (port ∷ ports) ls = with_ports n ports (with_frame port n.core.moment (node_frame port n) ls)

-- the lines of some turns: in each turn, for each port in ascending number
abbrev pub lines_after : Node → List Turn → List FrameLine
lines_after first [] = []
lines_after first (t ∷ ts) = with_ports (node_after first (t ∷ ts)) (port_numbers first.ports) (lines_after first ts)

-- the text of some lines, in the order in which they were written
abbrev pub text_of : List FrameLine → List ℕ
text_of [] = []
text_of (l ∷ ls) = text_of ls ++ line_text l

-- the text that a node writes over some turns
abbrev pub node_text : Node → List Turn → List ℕ
node_text first ts = text_of (lines_after first ts)
