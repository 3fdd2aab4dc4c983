use Rattle.std.proofs.Common.{◌≡◌}
use Rattle.sacn_edge.specs.Hearings.{Hands}
use Rattle.sacn_edge.specs.ConsoleSends.{Handed, datagrams}
use Rattle.sacn_replay.specs.Runs.{Player, Holds, AllGoOn, played, sends}
use Rattle.sacn_replay.proofs.run.play_due.Given as goal

-- the steps so far
abbrev pub invariant-loop-count : goal.invariant-loop-count
invariant-loop-count g l =
    (p : Player) → Holds (g.T.RecordReader.told l.fn.tape) l.fn.core p
    → (handed : Handed)
    × Hands (g.L.Link.told l.fn.link) (g.L.Link.told l.link) handed
    × (datagrams handed ≡ sends l.now l._count p)
    × Holds (g.T.RecordReader.told l.tape) l.core (played l.now l._count p)
    × AllGoOn l.now l._count p
