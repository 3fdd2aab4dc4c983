use Rattle.std.proofs.Common.{List, IfOk, IfErr, ap, subst, rules}
use Rattle.sacn_sources.specs.Rows.{Row, Table}
use Rattle.sacn_sources.specs.declared.entry.Entry.{Entry}
use Rattle.std.proofs.lemmas.List.Sorted.{answers_always}
use Rattle.sacn_sources.specs.Places.{IsAt, IsGap}
use Rattle.sacn_sources.specs.Order.{order}
use Rattle.sacn_sources.proofs.Searches.{searched}
use Rattle.sacn_sources.proofs.store.Store.search_in_order.Goals as goal

pub returns-clause-found : goal.returns-clause-found
unfolding order
returns-clause-found c =
    let es = c.self.inside.entries.items in
    let fr = c.self.inside.frames in
    let rows = c.args.self.now.rows in
    let view_is = ap (λ (t : Table). t.rows) c.self.view_is in
    let facts = c.binary_search_by_key.ensures in
    let by_key = facts.position (λ (e : Entry). e.cid) (answers_always _ _ _ (λ f a r g called. search rules)) in
    let in_fields = searched es fr c.self.invariant c.args.cid.now c.binary_search_by_key.result (rw (← c.deref.ensures.0) facts.bound) (rw (← c.deref.ensures.0) by_key) in
    subst (λ (rs : List Row). IfOk c.binary_search_by_key.result (IsAt rs c.args.cid.now)) view_is in_fields.0

pub returns-clause-absent : goal.returns-clause-absent
unfolding order
returns-clause-absent c =
    let es = c.self.inside.entries.items in
    let fr = c.self.inside.frames in
    let rows = c.args.self.now.rows in
    let view_is = ap (λ (t : Table). t.rows) c.self.view_is in
    let facts = c.binary_search_by_key.ensures in
    let by_key = facts.position (λ (e : Entry). e.cid) (answers_always _ _ _ (λ f a r g called. search rules)) in
    let in_fields = searched es fr c.self.invariant c.args.cid.now c.binary_search_by_key.result (rw (← c.deref.ensures.0) facts.bound) (rw (← c.deref.ensures.0) by_key) in
    subst (λ (rs : List Row). IfErr c.binary_search_by_key.result (IsGap rs c.args.cid.now)) view_is in_fields.1
