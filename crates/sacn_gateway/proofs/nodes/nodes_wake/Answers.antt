use Rattle.std.proofs.Common.{◌<◌, length, arith, subst}
use Rattle.sacn_gateway.specs.GatewayNodes.{Sleeps}
use Rattle.sacn_gateway.proofs.NodeLists.{more_sleep, sleeps_later}
use Rattle.sacn_gateway.proofs.nodes.nodes_wake.Goals as goal

pub loop-node-preserved : goal.loop-node-preserved
loop-node-preserved g c =
    let ns = c.args.nodes.now in
    let i = c.loop-node.node-index in
    let within : i < length ns = omega (arith, c.loop-node-test.true) in
    let e = c.wake-wake.ensures in
    record {
      latest = omega (arith, e.latest, c.loop-node.invariant.latest);
      asleep = more_sleep c.args.now c.args.latest c.loop-node.wake c.wake-wake.result i ns c.node-item.result c.loop-node.invariant.asleep e.latest (subst (Sleeps c.args.now c.args.latest c.wake-wake.result) c.node-item.is (sleeps_later c.node-item.result c.args.now c.loop-node.wake c.args.latest c.wake-wake.result c.loop-node.invariant.latest e.asleep)) within;
    }
