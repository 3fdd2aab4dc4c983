use Rattle.std.proofs.Common.{◌≡◌}
use Rattle.sacn_edge.specs.Hearings.{Hands}
use Rattle.sacn_edge.specs.ConsoleSends.{Handed, datagrams}
use Rattle.sacn_played_run.specs.Calls.{after, given_by, polls}
use Rattle.sacn_played_run.proofs.sending.send_due.Given as goal

-- the polls so far
abbrev pub invariant-loop-count : goal.invariant-loop-count
invariant-loop-count g l =
    (handed : Handed)
    × Hands (g.L.DeskLink.told l.fn.link) (g.L.DeskLink.told l.link) handed
    × (datagrams handed ≡ given_by (polls l.now l._count) l.fn.source)
    × (l.source ≡ after (polls l.now l._count) l.fn.source)
