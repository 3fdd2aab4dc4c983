use Rattle.sacn_gateway.specs.GatewayNodes.{IsMoved}
use Rattle.sacn_node.specs.Calls.{with_reading}
use Rattle.sacn_gateway.proofs.Pairing.{DoneTo}
use Rattle.sacn_gateway.proofs.nodes.take_nodes.Given as goal

-- the nodes so far, and the rest as they were
abbrev pub invariant-loop-node : goal.invariant-loop-node
invariant-loop-node g l = DoneTo (IsMoved (with_reading l.now l.reading)) l.node-index l.initial.nodes l.nodes
