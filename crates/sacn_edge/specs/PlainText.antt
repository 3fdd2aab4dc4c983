-- A node's text by the plain rule: each turn makes its call on the node, and then, for each port in ascending number, the call
-- that asks for its frame. Lists of turns, calls and lines have the latest first.
use Rattle.std.specs.Prelude.{◌≡◌, ℕ, ◌<◌, List, [], ◌∷◌, ◌++◌, length, take, Option, None}
use Rattle.sacn_node.specs.Setup.{Port, port_numbers}
use Rattle.sacn_node.specs.Calls.{Call, Frame, Answer, Replied, Lost, Shown, after_calls, moment_in_use}
use Rattle.sacn_node.specs.PlainRule.{plain_rule}
use Rattle.sacn_edge.specs.Additions.{Adds}
use Rattle.sacn_edge.specs.NodeText.{Turn, FrameLine, call_at, with_frame, line_text, lines_after, text_of, node_text}
use Rattle.sacn_edge.specs.NodeRun.{StopsIn}

-- the calls, with those that ask for the frames of some ports
abbrev pub asked : ℕ → List ℕ → List Call → List Call
asked now [] calls = calls
asked now (port ∷ ports) calls = asked now ports (Frame now port ∷ calls)

-- all calls of some turns, after those made before
abbrev pub calls_of : List ℕ → List Call → List Turn → List Call
calls_of numbers before [] = before
calls_of numbers before (t ∷ ts) = asked t.now numbers (call_at t.now t.heard ∷ calls_of numbers before ts)

abbrev pub frame_told : Answer → Option (List ℕ)
frame_told (Replied reply) = None
frame_told (Lost count) = None
frame_told (Shown frame) = frame

-- the lines with those of some ports, whose frames the plain rule answers after some calls
abbrev pub plain_ports : List Port → ℕ → List ℕ → List Call → List FrameLine → List FrameLine
plain_ports ports now [] earlier ls = ls
plain_ports ports now (p ∷ ps) earlier ls =
    plain_ports ports now ps (Frame now p ∷ earlier)
    (with_frame p (moment_in_use (Frame now p ∷ earlier)) (frame_told (plain_rule ports (Frame now p) earlier)) ls)

-- the lines of some turns, after the calls made before
abbrev pub plain_lines : List Port → List Call → List Turn → List FrameLine
plain_lines ports before [] = []
plain_lines ports before (t ∷ ts) =
    plain_ports ports t.now (port_numbers ports) (call_at t.now t.heard ∷ calls_of (port_numbers ports) before ts) (plain_lines ports before ts)

-- after any calls on a node, the text of any turns is that of the plain rule
abbrev pub TextIsByThePlainRule : Type 0
TextIsByThePlainRule = (ports : List Port) (before : List Call) (ts : List Turn) → node_text (after_calls ports before) ts ≡ text_of (plain_lines ports before ts)

-- after any calls on a node, the lines of any turns are those of the plain rule
abbrev pub LinesAreByThePlainRule : Type 0
LinesAreByThePlainRule = (ports : List Port) (before : List Call) (ts : List Turn) → lines_after (after_calls ports before) ts ≡ plain_lines ports before ts

-- a line of the plain rule for the turn t was not written whole: what is written has each line before it, and a proper part of it
abbrev pub PlainlyStopsIn : List Port → List Call → Turn → List Turn → (List ℕ → Type 0) → (List ℕ → Type 0) → Type 0
PlainlyStopsIn ports before t ts old new =
    (unwritten : List FrameLine) × (l : FrameLine) × (written : List FrameLine) × (k : ℕ)
    × (plain_lines ports before (t ∷ ts) ≡ unwritten ++ l ∷ (written ++ plain_lines ports before ts))
    × (k < length (line_text l))
    × Adds old new (text_of (written ++ plain_lines ports before ts) ++ take k (line_text l))

-- after any calls on a node, what a sink has up to a failed write is the plain rule's text up to a line
abbrev pub StopsByThePlainRule : Type 0
StopsByThePlainRule =
    (ports : List Port) (before : List Call) (t : Turn) (ts : List Turn) (old new : List ℕ)
    → StopsIn (after_calls ports before) t ts (λ xs. xs ≡ old) (λ ys. ys ≡ new) → PlainlyStopsIn ports before t ts (λ xs. xs ≡ old) (λ ys. ys ≡ new)
