use Rattle.sacn_gateway.specs.GatewayNodes.{IsMoved}
use Rattle.sacn_node.specs.Calls.{step, Tick}
use Rattle.sacn_gateway.proofs.Pairing.{DoneTo}
use Rattle.sacn_gateway.proofs.nodes.tick_nodes.Given as goal

-- the nodes so far, and the rest as they were
abbrev pub invariant-loop-node : goal.invariant-loop-node
invariant-loop-node g l = DoneTo (IsMoved (step (Tick l.now))) l.node-index l.initial.nodes l.nodes
