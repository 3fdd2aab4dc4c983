use Rattle.std.proofs.Common.{◌≡◌, List, length}
use Rattle.sacn_edge.specs.Additions.{Extends}
use Rattle.sacn_edge.specs.Hearings.{Hands}
use Rattle.sacn_edge.specs.ConsoleSends.{Handed, datagrams}
use Rattle.sacn_replay.specs.Runs.{Player, Round, Holds, AreRounds, NoneIsLast, after_rounds, readings, run_sends, run_talk}
use Rattle.sacn_replay.proofs.run.run_rounds.Given as goal

-- the rounds so far
abbrev pub invariant-loop-round : goal.invariant-loop-round
invariant-loop-round g l =
    (p : Player) → Holds (g.T.RecordReader.told l.fn.tape) l.fn.core p
    → (rs : List Round) × (handed : Handed)
    × (length rs ≡ l._round)
    × NoneIsLast rs
    × AreRounds p rs
    × Extends (g.C.Clock.readings l.fn.clock) (g.C.Clock.readings l.clock) (readings rs)
    × Extends (g.O.PlayOrders.told l.fn.orders) (g.O.PlayOrders.told l.orders) (run_talk p rs)
    × Hands (g.L.Link.told l.fn.link) (g.L.Link.told l.link) handed
    × (datagrams handed ≡ run_sends p rs)
    × Holds (g.T.RecordReader.told l.tape) l.core (after_rounds p rs)
