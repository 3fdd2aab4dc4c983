use Rattle.std.proofs.Common.{◌≡◌, ◌≤◌, ◌+◌, ℕ, List, length, drop}
use Rattle.sacn_edge.specs.Additions.{Extends}
use Rattle.sacn_edge.specs.Hearings.{Hands}
use Rattle.sacn_edge.specs.ConsoleSends.{Handed, datagrams, console_sends, core_after, reader_after, refused_by, in_order, sends_report}
use Rattle.sacn_edge.proofs.console_loop.run_console.Given as goal

-- the turns so far
abbrev pub invariant-loop-turn : goal.invariant-loop-turn
invariant-loop-turn g l = record {
  few : l.report.sent + l.report.failed ≤ l.turn;
  within : l.next ≤ length l.script;
  refusals : l.report.refused ≤ l.next;
  run :
      (readings : List ℕ) × (handed : Handed)
      × (length readings ≡ l.turn)
      × Extends (g.C.Clock.readings l.fn.clock) (g.C.Clock.readings l.clock) (in_order readings)
      × Hands (g.L.Link.told l.fn.link) (g.L.Link.told l.link) handed
      × (datagrams handed ≡ console_sends l.fn.core l.script readings)
      × (l.report ≡ sends_report handed (refused_by l.fn.core l.script readings))
      × (l.core ≡ core_after l.fn.core l.script readings)
      × (record { left = drop l.next l.script; greatest = l.greatest } ≡ reader_after l.script readings);
}
