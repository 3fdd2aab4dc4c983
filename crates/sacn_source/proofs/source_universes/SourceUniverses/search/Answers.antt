use Rattle.std.proofs.Common.{◌≡◌, ◌<◌, ◌≤◌, None, Some, IfOk, IfErr, length, find, subst, rules}
use Rattle.std.specs.List.{insert}
use Rattle.std.proofs.lemmas.List.Sorted.{answers_always}
use Rattle.sacn_source.specs.declared.source_universe.SourceUniverse.{SourceUniverse}
use Rattle.sacn_source.specs.Table.{Table, is_of, row_at, with_universe}
use Rattle.sacn_source.proofs.Places.{found, absent}
use Rattle.sacn_source.proofs.source_universes.SourceUniverses.search.Goals as goal

pub returns-clause-found : goal.returns-clause-found
returns-clause-found c =
    let facts = c.binary_search_by_key.ensures in
    let by_key = facts.position (λ (r : SourceUniverse). r.line.universe) (answers_always _ _ _ (λ f a r g called. search rules)) in
    let here = found c.self.inside.rows.items c.args.universe c.self.invariant.1.rising c.binary_search_by_key.result (rw (← c.deref.ensures.value) facts.bound) (rw (← c.deref.ensures.value) by_key) in
    subst (λ (t : Table). IfOk c.binary_search_by_key.result (λ i. (i < length t.rows) × (find (is_of c.args.universe) t.rows ≡ Some (row_at t i)) × ((row_at t i).line.universe ≡ c.args.universe))) c.self.view_is here

pub returns-clause-absent : goal.returns-clause-absent
returns-clause-absent c =
    let facts = c.binary_search_by_key.ensures in
    let by_key = facts.position (λ (r : SourceUniverse). r.line.universe) (answers_always _ _ _ (λ f a r g called. search rules)) in
    let here = absent c.self.inside.rows.items c.args.universe c.self.invariant.1.rising c.binary_search_by_key.result (rw (← c.deref.ensures.value) facts.bound) (rw (← c.deref.ensures.value) by_key) in
    subst (λ (t : Table). IfErr c.binary_search_by_key.result (λ i. (i ≤ length t.rows) × (find (is_of c.args.universe) t.rows ≡ None) × ((n : SourceUniverse) → n.line.universe ≡ c.args.universe → insert t.rows i n ≡ with_universe n t.rows))) c.self.view_is here
