-- What a gateway writes over what it heard. A turn is the list of its hearings; lists of turns, hearings and lines have the latest first.
use Rattle.std.specs.Prelude.{ℕ, List, [], ◌∷◌}
use Rattle.sacn_node.specs.Setup.{port_numbers}
use Rattle.sacn_node.specs.Cores.{Node}
use Rattle.sacn_edge.specs.NodeText.{FrameLine, node_after, with_ports, text_of}
use Rattle.sacn_gateway.specs.declared.backlog.Backlog.{Backlog}
use Rattle.sacn_gateway.specs.Backlogs.{nothing_waits}
use Rattle.sacn_machine.specs.Hearings.{Hearing}
use Rattle.sacn_gateway.specs.GatewayTurns.{turns_of, backlog_after}

-- a node, and what is known of what waits for it
pub record Gate : Type 0 where
  pub node : Node
  pub waits : Backlog

-- after a turn: each hearing goes to the node at its own reading
abbrev pub gate_after : List (List ℕ) → List Hearing → Gate → Gate
gate_after senders hs g = record {
  node = node_after g.node (turns_of senders g.waits hs);
  waits = backlog_after g.waits hs;
}

-- after some turns of a gateway whose clock began at 0
abbrev pub gateway_after : Node → List (List ℕ) → List (List Hearing) → Gate
gateway_after first senders [] = record { node = first; waits = nothing_waits 0 }
gateway_after first senders (hs ∷ turns) = gate_after senders hs (gateway_after first senders turns)

-- the lines: once what a turn heard is with the node, for each port in ascending number whose frame isn't that of its latest line
abbrev pub gateway_lines : Node → List (List ℕ) → List (List Hearing) → List FrameLine
gateway_lines first senders [] = []
gateway_lines first senders (hs ∷ turns) =
    with_ports (gateway_after first senders (hs ∷ turns)).node (port_numbers first.ports) (gateway_lines first senders turns)

abbrev pub gateway_text : Node → List (List ℕ) → List (List Hearing) → List ℕ
gateway_text first senders turns = text_of (gateway_lines first senders turns)
