use Rattle.sacn_gateway.proofs.NodeLists.{woken_latest, woken_sleeps}
use Rattle.sacn_gateway.proofs.nodes.GatewayNode.wake.Goals as goal

pub returns-clause-latest : goal.returns-clause-latest
returns-clause-latest g c = woken_latest c.as_slice.result.now c.args.now c.loss_wake.result c.args.latest c.first_wake.result c.first_wake.ensures c.loss_wake.ensures.latest

pub returns-clause-asleep : goal.returns-clause-asleep
returns-clause-asleep g c = woken_sleeps c.args.self.now c.args.now c.loss_wake.result c.args.latest c.first_wake.result (rw c.as_slice.ensures.value at c.first_wake.ensures) c.loss_wake.ensures.latest c.loss_wake.ensures.lost
