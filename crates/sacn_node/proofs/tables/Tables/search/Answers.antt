use Rattle.std.proofs.Common.{◌≡◌, ◌<◌, ◌≤◌, ℕ, IfOk, IfErr, length, get_or, subst, rules}
use Rattle.std.proofs.lemmas.List.Sorted.{answers_always}
use Rattle.sacn_sources.specs.LatestMerge.{new_kept}
use Rattle.sacn_node.specs.declared.tables.OneUniverse.{OneUniverse}
use Rattle.sacn_node.specs.Cores.{Table, Core}
use Rattle.sacn_node.proofs.Places.{found, absent, in_bounds}
use Rattle.sacn_node.proofs.tables.Tables.search.Goals as goal

abbrev blank : OneUniverse
blank = record { universe = 0; table = new_kept }

pub returns-clause-found : goal.returns-clause-found
returns-clause-found c =
    let facts = c.binary_search_by_key.ensures in
    let by_key = facts.position (λ (e : OneUniverse). e.universe) (answers_always _ _ _ (λ f a r g called. search rules)) in
    let in_fields = found c.self.inside.list.items c.args.universe c.self.invariant.rising c.binary_search_by_key.result (rw (← c.deref.ensures.value) facts.bound) (rw (← c.deref.ensures.value) by_key) blank in
    subst (λ (n : Core). IfOk c.binary_search_by_key.result (λ at. (at < length n.tables) × ((d : Table) → (get_or n.tables at d).universe ≡ c.args.universe) × ((j : ℕ) (d : Table) → j < at → (get_or n.tables j d).universe < c.args.universe))) c.self.view_is in_fields

pub returns-clause-absent : goal.returns-clause-absent
returns-clause-absent c =
    let facts = c.binary_search_by_key.ensures in
    let by_key = facts.position (λ (e : OneUniverse). e.universe) (answers_always _ _ _ (λ f a r g called. search rules)) in
    let in_fields = absent c.self.inside.list.items c.args.universe c.self.invariant.rising c.binary_search_by_key.result (rw (← c.deref.ensures.value) facts.bound) (rw (← c.deref.ensures.value) by_key) blank in
    subst (λ (n : Core). IfErr c.binary_search_by_key.result (λ at. (j : ℕ) (d : Table) → j < length n.tables → (j < at → (get_or n.tables j d).universe < c.args.universe) × (at ≤ j → c.args.universe < (get_or n.tables j d).universe))) c.self.view_is in_fields

pub returns-clause-gap : goal.returns-clause-gap
returns-clause-gap c =
    subst (λ (n : Core). IfErr c.binary_search_by_key.result (λ at. at ≤ length n.tables)) c.self.view_is
    (in_bounds c.self.inside.list.items c.binary_search_by_key.result (rw (← c.deref.ensures.value) c.binary_search_by_key.ensures.bound))
