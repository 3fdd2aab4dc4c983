use Rattle.std.proofs.Common.{◌≡◌}
use Rattle.sacn_replay.specs.Runs.{Player, Holds, AllGoOn, played}
use Rattle.sacn_played_run.specs.Calls.{after}
use Rattle.sacn_played_run.specs.Taking.{due_calls}
use Rattle.sacn_played_run.proofs.taking.take_due.Given as goal

-- the steps so far
abbrev pub invariant-loop-count : goal.invariant-loop-count
invariant-loop-count g l =
    (p : Player) → Holds (g.T.RecordReader.told l.fn.tape) l.fn.core p
    → Holds (g.T.RecordReader.told l.tape) l.core (played l.now l._count p)
    × AllGoOn l.now l._count p
    × (l.source ≡ after (due_calls l.now l._count p) l.fn.source)
