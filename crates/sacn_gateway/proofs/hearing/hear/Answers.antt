use Rattle.std.proofs.Common.{sym, subst}
use Rattle.sacn_node.specs.Calls.{step}
use Rattle.sacn_edge.specs.NodeText.{call_at}
use Rattle.sacn_machine.specs.Hearings.{came_of}
use Rattle.sacn_machine.specs.declared.receiver.Arrival.{Arrival}
use Rattle.sacn_gateway.specs.GatewayTurns.{heard_of}
use Rattle.sacn_gateway.specs.GatewayNodes.{IsMoved}
use Rattle.sacn_gateway.specs.Interfaces.{Pairwise}
use Rattle.sacn_gateway.proofs.hearing.hear.Goals as goal

pub returns-in-Nothing-clause-nodes : goal.returns-in-Nothing-clause-nodes
returns-in-Nothing-clause-nodes g c =
    let r = c.receive-receipt in
    subst (λ (a : Arrival). Pairwise (IsMoved (step (call_at r.result.now (heard_of c.args.senders.now c.args.waits r.result.now (came_of a r.new.buffer))))) c.args.nodes.now c.tick_nodes.new.nodes)
    (sym c.in-Nothing.is) c.tick_nodes.ensures

pub returns-in-Failed-clause-nodes : goal.returns-in-Failed-clause-nodes
returns-in-Failed-clause-nodes g c =
    let r = c.receive-receipt in
    subst (λ (a : Arrival). Pairwise (IsMoved (step (call_at r.result.now (heard_of c.args.senders.now c.args.waits r.result.now (came_of a r.new.buffer))))) c.args.nodes.now c.tick_nodes-in-Failed.new.nodes)
    (sym c.in-Failed.is) c.tick_nodes-in-Failed.ensures
