-- A gateway's lines by the plain rule: what each hearing brings makes its call on the node, and then, at the turn's last reading, for
-- each port in ascending number, comes the call that asks for its frame. Lists of turns, hearings, calls and lines have the latest first.
use Rattle.std.specs.Prelude.{◌≡◌, ℕ, ◌<◌, List, [], ◌∷◌, ◌++◌, length, take}
use Rattle.sacn_node.specs.Setup.{Port, port_numbers}
use Rattle.sacn_node.specs.Calls.{Call, after_calls}
use Rattle.sacn_edge.specs.Additions.{Adds}
use Rattle.sacn_edge.specs.NodeText.{Turn, FrameLine, call_at, line_text, text_of}
use Rattle.sacn_edge.specs.PlainText.{asked, plain_ports}
use Rattle.sacn_gateway.specs.declared.backlog.Backlog.{Backlog}
use Rattle.sacn_gateway.specs.Backlogs.{nothing_waits}
use Rattle.sacn_machine.specs.Hearings.{Hearing}
use Rattle.sacn_gateway.specs.GatewayTurns.{turns_of, backlog_after}
use Rattle.sacn_gateway.specs.GatewayText.{gateway_lines, gateway_text}
use Rattle.sacn_gateway.specs.GatewayRun.{AreWhole, StopsIn, latest_reading}

-- what is known of what waits, after some turns of a gateway whose clock began at 0
abbrev pub backlog_at : List (List Hearing) → Backlog
backlog_at [] = nothing_waits 0
backlog_at (hs ∷ turns) = backlog_after (backlog_at turns) hs

-- the calls, with those of what came
abbrev pub with_calls : List Turn → List Call → List Call
with_calls [] calls = calls
with_calls (t ∷ ts) calls = call_at t.now t.heard ∷ with_calls ts calls

-- all calls of some turns, after those made before
abbrev pub calls_of : List Port → List (List ℕ) → List Call → List (List Hearing) → List Call
calls_of ports senders before [] = before
calls_of ports senders before (hs ∷ turns) =
    asked (latest_reading hs) (port_numbers ports) (with_calls (turns_of senders (backlog_at turns) hs) (calls_of ports senders before turns))

-- the lines of some turns, after the calls made before
abbrev pub plain_lines : List Port → List (List ℕ) → List Call → List (List Hearing) → List FrameLine
plain_lines ports senders before [] = []
plain_lines ports senders before (hs ∷ turns) =
    plain_ports ports (latest_reading hs) (port_numbers ports)
    (with_calls (turns_of senders (backlog_at turns) hs) (calls_of ports senders before turns))
    (plain_lines ports senders before turns)

-- after any calls on a node, the lines that a gateway writes over any turns are those of the plain rule
abbrev pub GatewayLinesAreByThePlainRule : Type 0
GatewayLinesAreByThePlainRule =
    (ports : List Port) (senders : List (List ℕ)) (before : List Call) (turns : List (List Hearing))
    → AreWhole turns → gateway_lines (after_calls ports before) senders turns ≡ plain_lines ports senders before turns

-- ... and so is its text
abbrev pub GatewayTextIsByThePlainRule : Type 0
GatewayTextIsByThePlainRule =
    (ports : List Port) (senders : List (List ℕ)) (before : List Call) (turns : List (List Hearing))
    → AreWhole turns → gateway_text (after_calls ports before) senders turns ≡ text_of (plain_lines ports senders before turns)

-- a line of the plain rule for the turn hs was not written whole: what is written has each line before it, and a proper part of it
abbrev pub PlainlyStopsIn : List Port → List (List ℕ) → List Call → List Hearing → List (List Hearing) → (List ℕ → Type 0) → (List ℕ → Type 0) → Type 0
PlainlyStopsIn ports senders before hs turns old new =
    (unwritten : List FrameLine) × (l : FrameLine) × (written : List FrameLine) × (k : ℕ)
    × (plain_lines ports senders before (hs ∷ turns) ≡ unwritten ++ l ∷ (written ++ plain_lines ports senders before turns))
    × (k < length (line_text l))
    × Adds old new (text_of (written ++ plain_lines ports senders before turns) ++ take k (line_text l))

-- after any calls on a node, what a sink has up to a failed write of a gateway is the plain rule's text up to a line
abbrev pub GatewayStopsByThePlainRule : Type 0
GatewayStopsByThePlainRule =
    (ports : List Port) (senders : List (List ℕ)) (before : List Call) (hs : List Hearing) (turns : List (List Hearing)) (old new : List ℕ)
    → AreWhole (hs ∷ turns)
    → StopsIn (after_calls ports before) senders hs turns (λ xs. xs ≡ old) (λ ys. ys ≡ new)
    → PlainlyStopsIn ports senders before hs turns (λ xs. xs ≡ old) (λ ys. ys ≡ new)
