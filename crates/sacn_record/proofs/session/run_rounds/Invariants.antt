use Rattle.std.proofs.Common.{◌≡◌, List, [], length}
use Rattle.sacn_edge.specs.Additions.{Extends}
use Rattle.sacn_record.specs.Laws.{AllFit}
use Rattle.sacn_record.specs.Hearing.{Catch, caught_by, asked_by}
use Rattle.sacn_record.specs.Sessions.{AreBefore, begun_by, deeds_by, totals_by}
use Rattle.sacn_record.proofs.session.run_rounds.Given as goal

-- the rounds so far
abbrev pub invariant-loop-round : goal.invariant-loop-round
invariant-loop-round g l =
    (rounds : List (List Catch))
    × (length rounds ≡ l._round)
    × AreBefore l.until rounds
    × Extends (g.L.Wire.told l.fn.wire) (g.L.Wire.told l.wire) (caught_by rounds)
    × Extends (g.T.Tapes.told l.fn.tapes) (g.T.Tapes.told l.tapes) (deeds_by l.plan rounds)
    × (l.begun ≡ begun_by l.plan rounds)
    × (l.totals ≡ totals_by l.plan rounds)
    × (l.waiting.count ≡ 0)
    × (l.waiting.blocks.items ≡ [])
    × AllFit (asked_by l.plan rounds)
