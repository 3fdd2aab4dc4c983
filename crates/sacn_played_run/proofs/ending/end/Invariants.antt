use Rattle.std.proofs.Common.{◌≡◌, List, length}
use Rattle.sacn_edge.specs.Additions.{Extends}
use Rattle.sacn_edge.specs.Hearings.{Hands}
use Rattle.sacn_edge.specs.ConsoleSends.{Handed, datagrams}
use Rattle.sacn_played_run.specs.Calls.{after, given_by}
use Rattle.sacn_played_run.specs.Endings.{EndRound, AllOwe, AreEndRounds, end_calls, end_readings, end_talk}
use Rattle.sacn_played_run.proofs.ending.end.Given as goal

-- the rounds so far
abbrev pub invariant-loop-round : goal.invariant-loop-round
invariant-loop-round g l =
    (es : List EndRound) × (handed : Handed)
    × (length es ≡ l._round)
    × AreEndRounds es l.fn.source
    × AllOwe es l.fn.source
    × Extends (g.C.Clock.readings l.fn.clock) (g.C.Clock.readings l.clock) (end_readings es)
    × Extends (g.O.PlayOrders.told l.fn.orders) (g.O.PlayOrders.told l.orders) (end_talk es l.fn.source)
    × Hands (g.L.DeskLink.told l.fn.link) (g.L.DeskLink.told l.link) handed
    × (datagrams handed ≡ given_by (end_calls es) l.fn.source)
    × (l.source ≡ after (end_calls es) l.fn.source)
