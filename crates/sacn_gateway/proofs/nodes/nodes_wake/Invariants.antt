use Rattle.std.proofs.Common.{◌≤◌, take}
use Rattle.sacn_gateway.specs.GatewayNodes.{AllSleep}
use Rattle.sacn_gateway.proofs.nodes.nodes_wake.Given as goal

-- no later than the latest, nor than is waited for the nodes so far
abbrev pub invariant-loop-node : goal.invariant-loop-node
invariant-loop-node g l = record {
  latest : l.wake ≤ l.latest;
  asleep : AllSleep l.now l.latest l.wake (take l.node-index l.nodes);
}
