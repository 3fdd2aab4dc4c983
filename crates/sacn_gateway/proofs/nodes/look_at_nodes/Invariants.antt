use Rattle.sacn_gateway.specs.GatewayNodes.{IsLooked}
use Rattle.sacn_gateway.proofs.Pairing.{DoneTo}
use Rattle.sacn_gateway.proofs.nodes.look_at_nodes.Given as goal

-- the nodes so far, and the rest as they were
abbrev pub invariant-loop-node : goal.invariant-loop-node
invariant-loop-node g l = DoneTo (IsLooked) l.node-index l.initial.nodes l.nodes
