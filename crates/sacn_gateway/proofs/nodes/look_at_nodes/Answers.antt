use Rattle.std.proofs.Common.{◌≡◌, ℕ, ◌+◌, set, arith, subst, suc}
use Rattle.sacn_gateway.specs.GatewayNodes.{IsLooked}
use Rattle.sacn_gateway.proofs.Pairing.{DoneTo, none_done, more_done, all_done}
use Rattle.sacn_gateway.proofs.NodeLists.{shown_next}
use Rattle.sacn_gateway.proofs.nodes.look_at_nodes.Goals as goal

pub loop-node-init : goal.loop-node-init
loop-node-init g c = none_done (IsLooked) c.args.nodes.now

pub loop-node-preserved : goal.loop-node-preserved
loop-node-preserved g c =
    let R = IsLooked in
    let i = c.loop-node.node-index in
    let next : suc i ≡ i + 1 = omega arith in
    subst (λ (k : ℕ). DoneTo R k c.args.nodes.now (set c.loop-node.nodes i c.look.new.self)) next
    (more_done R i c.args.nodes.now c.loop-node.nodes c.node-item.result c.look.new.self c.loop-node.invariant c.loop-node-test.true c.look.ensures)

pub returns : goal.returns
returns g c =
    all_done (IsLooked) c.loop-node.node-index c.args.nodes.now c.loop-node.nodes (omega (arith, c.loop-node-test.false, c.loop-node.auto.node-index-end)) c.loop-node.invariant

pub look-requires : goal.look-requires
look-requires g c = shown_next (IsLooked) c.loop-node.node-index c.args.nodes.now c.loop-node.nodes c.node-item.result c.requires c.loop-node.invariant c.loop-node-test.true
