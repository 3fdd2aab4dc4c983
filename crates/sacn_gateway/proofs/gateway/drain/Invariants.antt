use Rattle.std.proofs.Common.{◌≡◌, List, ◌∷◌, length}
use Rattle.sacn_edge.specs.Additions.{Extends}
use Rattle.sacn_edge.specs.NodeText.{node_after}
use Rattle.sacn_machine.specs.Hearings.{Hearing, in_order, is_datagram}
use Rattle.sacn_gateway.specs.GatewayTurns.{turns_of, backlog_after}
use Rattle.sacn_gateway.specs.GatewayRun.{first_reading, GoesOn}
use Rattle.sacn_gateway.specs.Interfaces.{Pairwise}
use Rattle.sacn_gateway.specs.GatewayNodes.{AreShown, IsMoved}
use Rattle.sacn_gateway.proofs.gateway.drain.Given as goal

-- what was heard so far is with each node
abbrev pub invariant-loop-count : goal.invariant-loop-count
invariant-loop-count g l = record {
  shown : AreShown l.nodes;
  run :
      (h : Hearing) × (hs : List Hearing)
      × (length (h ∷ hs) ≡ l._count)
      × (is_datagram h.came ≡ l.step.is_more)
      × Extends (g.G.Receiver.told l.fn.receiver) (g.G.Receiver.told l.receiver) (in_order (h ∷ hs))
      × Pairwise (IsMoved (λ n. node_after n (turns_of l.fn.senders l.fn.waits (h ∷ hs)))) l.fn.nodes l.nodes
      × (l.step.waits ≡ backlog_after l.fn.waits (h ∷ hs))
      × (l.step.now ≡ h.now)
      × (l.first ≡ first_reading (h ∷ hs))
      × GoesOn hs;
}
