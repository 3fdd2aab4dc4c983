use Rattle.std.proofs.Common.{◌≡◌, ◌≤◌, ◌+◌, ◌++◌, ℕ}
use Rattle.sacn_edge.specs.Hearings.{Hands}
use Rattle.sacn_edge.specs.ConsoleSends.{Handed, datagrams, sends_report}
use Rattle.sacn_desk.specs.DeskSends.{polled, sends}
use Rattle.sacn_desk.proofs.desk.send_due.Given as goal

-- the polls so far
abbrev pub invariant-loop-count : goal.invariant-loop-count
invariant-loop-count g l = record {
  few : l.report.sent + l.report.failed ≤ l.fn.report.sent + l.fn.report.failed + l._count;
  refused : l.report.refused ≡ l.fn.report.refused;
  run :
      (handed : Handed)
      × Hands (g.L.DeskLink.told l.fn.link) (g.L.DeskLink.told l.link) handed
      × (datagrams handed ≡ sends l.now l._count l.fn.core)
      × (l.core ≡ polled l.now l._count l.fn.core)
      × ((earlier : Handed) (refused : ℕ) → l.fn.report ≡ sends_report earlier refused → l.report ≡ sends_report (earlier ++ handed) refused);
}
