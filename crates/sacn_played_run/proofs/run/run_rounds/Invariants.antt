use Rattle.std.proofs.Common.{◌≡◌, List, length, map}
use Rattle.sacn_edge.specs.Additions.{Extends}
use Rattle.sacn_edge.specs.Hearings.{Hands}
use Rattle.sacn_edge.specs.ConsoleSends.{Handed, datagrams}
use Rattle.sacn_replay.specs.Runs.{Player, Holds, NoneIsLast, after_rounds}
use Rattle.sacn_played_run.specs.Calls.{after, given_by}
use Rattle.sacn_played_run.specs.Rounds.{SourceRound, AreSourceRounds, bare, readings, run_calls, run_talk}
use Rattle.sacn_played_run.proofs.run.run_rounds.Given as goal

-- the rounds so far
abbrev pub invariant-loop-round : goal.invariant-loop-round
invariant-loop-round g l =
    (p : Player) → Holds (g.T.RecordReader.told l.fn.tape) l.fn.core p
    → (rs : List SourceRound) × (handed : Handed)
    × (length (map bare rs) ≡ l._round)
    × NoneIsLast (map bare rs)
    × AreSourceRounds p l.fn.source rs
    × Extends (g.C.Clock.readings l.fn.clock) (g.C.Clock.readings l.clock) (readings rs)
    × Extends (g.O.PlayOrders.told l.fn.orders) (g.O.PlayOrders.told l.orders) (run_talk p rs)
    × Hands (g.L.DeskLink.told l.fn.link) (g.L.DeskLink.told l.link) handed
    × (datagrams handed ≡ given_by (run_calls p rs) l.fn.source)
    × (l.source ≡ after (run_calls p rs) l.fn.source)
    × Holds (g.T.RecordReader.told l.tape) l.core (after_rounds p (map bare rs))
