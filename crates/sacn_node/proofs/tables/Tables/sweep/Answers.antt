use Rattle.std.proofs.Common.{◌≡◌, min, length, map, ap, sym, subst, ◌∙◌, arith}
use Rattle.std.proofs.lemmas.List.{length-map, with_items_is}
use Rattle.sacn_sources.specs.Wakes.{oldest_by, oldest_of}
use Rattle.sacn_node.specs.declared.tables.OneUniverse.{OneUniverse}
use Rattle.sacn_node.specs.Cores.{Core, core_at, core_lost}
use Rattle.sacn_node.specs.Storage.{seen, core_of, one_expired, lost_in, AreTables}
use Rattle.sacn_node.proofs.Expiry.{seen_expired, lost_expired, tables_expired}
use Rattle.sacn_node.proofs.Wakes.{oldest_seen}
use Rattle.sacn_node.proofs.tables.Tables.sweep.Goals as goal

pub invariant_of-self : goal.invariant_of-self
invariant_of-self c =
    let m = c.self.inside.moment in
    let t = c.max-moment.result in
    let os = c.self.inside.list.items in
    let new = map (one_expired t) os in
    let same = c.expire_all-gone.ensures.tables ∙ ap (map (one_expired t)) c.deref_mut.ensures.value in
    let long : length c.expire_all-gone.new.tables ≡ c.self.inside.list.len = omega (arith, ap length same, length-map os (one_expired t), c.self.inside.list.ok.0) in
    let items = with_items_is c.self.inside.list c.expire_all-gone.new.tables long ∙ same in
    let oldest = c.oldest_table.ensures ∙ ap (oldest_by (λ (o : OneUniverse). oldest_of o.table.table.rows)) (c.deref.ensures.value ∙ items) ∙ oldest_seen new in
    subst (AreTables t c.min-self-inside.result) (sym items)
    (tables_expired m t (omega (arith, c.max-moment.ensures)) c.self.inside.earliest c.min-self-inside.result os c.self.invariant c.max-moment.type_inv
    (c.min-self-inside.ensures ∙ ap (λ o. min o t) oldest))

pub returns-clause-gone : goal.returns-clause-gone
returns-clause-gone c =
    let m = c.self.inside.moment in
    let t = c.max-moment.result in
    let os = c.self.inside.list.items in
    c.expire_all-gone.ensures.gone ∙ ap (lost_in t) c.deref_mut.ensures.value
    ∙ lost_expired m t (omega (arith, c.max-moment.ensures)) os c.self.invariant.moments
    ∙ ap (λ k. Rattle.sacn_node.specs.Cores.rows_lost_all k (map seen os)) c.max-moment.ensures
    ∙ ap (core_lost c.args.now) c.self.view_is

pub returns-clause-core : goal.returns-clause-core
returns-clause-core c =
    let m = c.self.inside.moment in
    let t = c.max-moment.result in
    let os = c.self.inside.list.items in
    let same = c.expire_all-gone.ensures.tables ∙ ap (map (one_expired t)) c.deref_mut.ensures.value in
    let long : length c.expire_all-gone.new.tables ≡ c.self.inside.list.len = omega (arith, ap length same, length-map os (one_expired t), c.self.inside.list.ok.0) in
    ap (core_of t) (with_items_is c.self.inside.list c.expire_all-gone.new.tables long ∙ same)
    ∙ ap (λ gs. let n : Core = record { moment = t; tables = gs } in n) (seen_expired m t (omega (arith, c.max-moment.ensures)) os c.self.invariant.moments)
    ∙ ap (λ k. let n : Core = record { moment = k; tables = Rattle.sacn_node.specs.Cores.rows_kept_all k (map seen os) } in n) c.max-moment.ensures
    ∙ ap (core_at c.args.now) c.self.view_is
