use Rattle.std.proofs.Common.{◌≡◌, ◌<◌, ◌≤◌, ◌^◌, ℕ, IfSome, IfNone, map, ap, subst, ◌∙◌}
use Rattle.sacn_sources.specs.Wakes.{oldest_by, oldest_of}
use Rattle.sacn_node.specs.declared.tables.OneUniverse.{OneUniverse}
use Rattle.sacn_node.specs.Cores.{Core, core_lost}
use Rattle.sacn_node.specs.Storage.{seen}
use Rattle.sacn_node.proofs.Wakes.{oldest_seen, wakes_never, wakes_asleep, wakes_awake}
use Rattle.sacn_node.proofs.tables.Tables.wakes.Goals as goal

pub returns-clause-never : goal.returns-clause-never
returns-clause-never c =
    let i = c.self.inside in
    let oldest = c.oldest_table.ensures ∙ ap (oldest_by (λ (o : OneUniverse). oldest_of o.table.table.rows)) c.deref.ensures.value ∙ oldest_seen i.list.items in
    subst (λ (n : Core). IfNone c.checked_add.result ((t : ℕ) → t < 2 ^ 64 → core_lost t n ≡ 0)) c.self.view_is
    (wakes_never i.moment i.earliest c.oldest_table.result (map seen i.list.items) oldest c.self.invariant.rows c.self.invariant.young c.checked_add.result c.checked_add.ensures)

pub returns-clause-asleep : goal.returns-clause-asleep
returns-clause-asleep c =
    let i = c.self.inside in
    let oldest = c.oldest_table.ensures ∙ ap (oldest_by (λ (o : OneUniverse). oldest_of o.table.table.rows)) c.deref.ensures.value ∙ oldest_seen i.list.items in
    subst (λ (n : Core). IfSome c.checked_add.result (λ w. (t : ℕ) → t < w → core_lost t n ≡ 0)) c.self.view_is
    (wakes_asleep i.moment i.earliest c.oldest_table.result (map seen i.list.items) oldest c.self.invariant.rows c.self.invariant.young c.checked_add.result c.checked_add.ensures)

pub returns-clause-awake : goal.returns-clause-awake
returns-clause-awake c =
    let i = c.self.inside in
    let oldest = c.oldest_table.ensures ∙ ap (oldest_by (λ (o : OneUniverse). oldest_of o.table.table.rows)) c.deref.ensures.value ∙ oldest_seen i.list.items in
    subst (λ (n : Core). IfSome c.checked_add.result (λ w. 1 ≤ core_lost w n)) c.self.view_is
    (wakes_awake i.moment i.earliest c.oldest_table.result (map seen i.list.items) oldest c.self.invariant.rows c.self.invariant.young c.checked_add.result c.checked_add.ensures)
