use Rattle.std.proofs.Common.{◌≡◌, ◌≤◌, ◌+◌, ◌*◌, List, length}
use Rattle.sacn_edge.specs.Additions.{Extends}
use Rattle.sacn_edge.specs.Hearings.{Hands}
use Rattle.sacn_edge.specs.ConsoleSends.{Handed, datagrams, sends_report}
use Rattle.sacn_desk.specs.DeskSends.{Round, desk_after, desk_sends, desk_refusals, talk, readings, AreQuiet, AllGoOn}
use Rattle.sacn_desk.proofs.desk.run_desk.Given as goal

-- the rounds so far
abbrev pub invariant-loop-round : goal.invariant-loop-round
invariant-loop-round g l = record {
  few : l.report.sent + l.report.failed ≤ 1048576 * l._round;
  refusals : l.report.refused ≤ 4096 * l._round;
  run :
      (rs : List Round) × (handed : Handed)
      × (length rs ≡ l._round)
      × Extends (g.C.Clock.readings l.fn.clock) (g.C.Clock.readings l.clock) (readings rs)
      × Extends (g.O.Orders.told l.fn.orders) (g.O.Orders.told l.orders) (talk l.fn.core rs)
      × Hands (g.L.DeskLink.told l.fn.link) (g.L.DeskLink.told l.link) handed
      × (datagrams handed ≡ desk_sends l.fn.core rs)
      × (l.core ≡ desk_after l.fn.core rs)
      × AreQuiet l.fn.core rs
      × (l.report ≡ sends_report handed (desk_refusals l.fn.core rs))
      × AllGoOn rs;
}
