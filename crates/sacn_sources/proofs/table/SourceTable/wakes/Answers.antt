use Rattle.std.proofs.Common.{◌≡◌, ◌<◌, ◌≤◌, ◌^◌, ℕ, max, IfSome, IfNone, subst}
use Rattle.sacn_sources.specs.Rows.{rows_lost}
use Rattle.sacn_sources.specs.LatestMerge.{Kept}
use Rattle.sacn_sources.proofs.Wakes.{wakes_never, wakes_asleep, wakes_awake}
use Rattle.sacn_sources.proofs.table.SourceTable.wakes.Goals as goal

pub returns-clause-never : goal.returns-clause-never
returns-clause-never c =
    subst (λ (k : Kept). IfNone c.checked_add.result ((t : ℕ) → t < 2 ^ 64 → rows_lost (max k.table.moment t) k.table.rows ≡ 0)) c.self.view_is
    (wakes_never c.self.inside.earliest c.oldest.result c.self.inside.store c.self.invariant.1 c.oldest.ensures c.checked_add.result c.checked_add.ensures)

pub returns-clause-asleep : goal.returns-clause-asleep
returns-clause-asleep c =
    subst (λ (k : Kept). IfSome c.checked_add.result (λ w. (t : ℕ) → t < w → rows_lost (max k.table.moment t) k.table.rows ≡ 0)) c.self.view_is
    (wakes_asleep c.self.inside.earliest c.oldest.result c.self.inside.store c.self.invariant.1 c.oldest.ensures c.checked_add.result c.checked_add.ensures)

pub returns-clause-awake : goal.returns-clause-awake
returns-clause-awake c =
    subst (λ (k : Kept). IfSome c.checked_add.result (λ w. 1 ≤ rows_lost (max k.table.moment w) k.table.rows)) c.self.view_is
    (wakes_awake c.self.inside.earliest c.oldest.result c.self.inside.store c.self.invariant.1 c.oldest.ensures c.checked_add.result c.checked_add.ensures)
