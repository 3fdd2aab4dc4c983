use Rattle.std.proofs.Common.{◌≡◌, ◌≤◌, ◌+◌, List, length, false}
use Rattle.sacn_node.specs.Setup.{port_numbers}
use Rattle.sacn_node.specs.Showings.{IsShowingOf, ports_of}
use Rattle.sacn_edge.specs.Additions.{Adds}
use Rattle.sacn_edge.specs.NodeText.{Turn, node_after, node_text, lines_after}
use Rattle.sacn_edge.specs.NodeRun.{Turned, report_of}
use Rattle.sacn_edge.proofs.NodeLemmas.{Distinct, numbers, Remembers}
use Rattle.sacn_edge.proofs.node_loop.run_node.Given as goal

-- the turns so far
abbrev pub invariant-loop-turn : goal.invariant-loop-turn
invariant-loop-turn g l = record {
  works : g.O.Out.failed l.out ≡ false;
  few : l.report.received + l.report.failed ≤ l._turn;
  distinct : Distinct (port_numbers l.fn.core.ports);
  showing : IsShowingOf l.showing l.core;
  run :
      (ts : List Turn)
      × (length ts ≡ l._turn)
      × Turned (g.C.Clock.readings l.fn.clock) (g.C.Clock.readings l.clock) (g.L.Link.told l.fn.link) (g.L.Link.told l.link) ts
      × Adds (g.O.Out.Tells l.fn.out) (g.O.Out.Tells l.out) (node_text l.fn.core ts)
      × (l.core ≡ node_after l.fn.core ts)
      × (l.report ≡ report_of ts)
      × (numbers (ports_of l.showing) ≡ port_numbers l.fn.core.ports)
      × Remembers (lines_after l.fn.core ts) (ports_of l.showing);
}
