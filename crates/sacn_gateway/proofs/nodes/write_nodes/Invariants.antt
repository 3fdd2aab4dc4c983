use Rattle.std.proofs.Common.{◌≡◌, false, take}
use Rattle.sacn_edge.specs.Additions.{Adds}
use Rattle.sacn_gateway.specs.GatewayNodes.{news_texts}
use Rattle.sacn_gateway.proofs.nodes.write_nodes.Given as goal

-- the nodes so far are written
abbrev pub invariant-loop-node : goal.invariant-loop-node
invariant-loop-node g l = record {
  works : g.O.Out.failed l.out ≡ false;
  told : Adds (g.O.Out.Tells l.initial.out) (g.O.Out.Tells l.out) (news_texts (take l.node-index l.fn.nodes));
}
