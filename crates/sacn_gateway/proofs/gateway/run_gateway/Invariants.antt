use Rattle.std.proofs.Common.{◌≡◌, List, length, false}
use Rattle.sacn_edge.specs.Additions.{Adds, Extends}
use Rattle.sacn_machine.specs.Hearings.{Hearing, all_heard}
use Rattle.sacn_gateway.specs.PlainGateway.{backlog_at}
use Rattle.sacn_gateway.specs.GatewayRun.{AreWhole, AllBefore}
use Rattle.sacn_gateway.specs.GatewayNodes.{AreShown, cores_of}
use Rattle.sacn_gateway.specs.GatewaysText.{gateways_text}
use Rattle.sacn_gateway.specs.Interfaces.{Pairwise}
use Rattle.sacn_gateway.proofs.NodeTurns.{IsInRun}
use Rattle.sacn_gateway.proofs.gateway.run_gateway.Given as goal

-- the turns so far
abbrev pub invariant-loop-turn : goal.invariant-loop-turn
invariant-loop-turn g l = record {
  works : g.O.Out.failed l.out ≡ false;
  shown : AreShown l.nodes;
  run :
      (turns : List (List Hearing))
      × (length turns ≡ l._turn)
      × AllBefore l.span.until turns
      × AreWhole turns
      × Extends (g.G.Receiver.told l.fn.receiver) (g.G.Receiver.told l.receiver) (all_heard turns)
      × Adds (g.O.Out.Tells l.fn.out) (g.O.Out.Tells l.out) (gateways_text (cores_of l.fn.nodes) l.senders turns)
      × Pairwise (IsInRun g.D.Device.told l.senders turns) l.fn.nodes l.nodes
      × (l.waits ≡ backlog_at turns);
}
