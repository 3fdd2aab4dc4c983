use Rattle.sacn_gateway.specs.GatewayNodes.{IsNodeServed}
use Rattle.sacn_gateway.proofs.Pairing.{DoneTo}
use Rattle.sacn_gateway.proofs.nodes.serve_nodes.Given as goal

-- the nodes so far, and the rest as they were
abbrev pub invariant-loop-node : goal.invariant-loop-node
invariant-loop-node g l = DoneTo (IsNodeServed g.D.Device.told l.now) l.node-index l.initial.nodes l.nodes
