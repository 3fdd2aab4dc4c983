use Rattle.std.proofs.Common.{◌≡◌, ◌<◌, ℕ, List, IsSome, length, get_or, is_some, refl, ap, sym, subst, ◌∙◌, arith}
use Rattle.sacn_sources.specs.Rows.{Row, Table}
use Rattle.sacn_sources.specs.declared.entry.Entry.{Entry}
use Rattle.sacn_sources.specs.Storage.{rows_in}
use Rattle.std.specs.List.{remove}
use Rattle.slab.specs.Slab.{get}
use Rattle.sacn_sources.proofs.Edits.{within_entries, rows_removed, removed_stored, row_there, with_rows}
use Rattle.sacn_sources.proofs.Layers.{live_test}
use Rattle.sacn_sources.proofs.store.Store.drop_at.Goals as goal

pub remove-entry-requires : goal.remove-entry-requires
remove-entry-requires c = (omega arith, within_entries c.self.inside.entries.items c.self.inside.frames c.args.self.now.rows (ap (λ (t : Table). t.rows) c.self.view_is) c.args.at c.requires)

pub remove-requires : goal.remove-requires
remove-requires c =
    let es = c.self.inside.entries.items in
    let fr = c.self.inside.frames in
    let rows = c.args.self.now.rows in
    let view_is = ap (λ (t : Table). t.rows) c.self.view_is in
    subst (λ (e : Entry). IsSome (get fr e.key)) (sym c.remove-entry.ensures.value) (c.self.invariant.stored c.args.at c.remove-entry.result (within_entries es fr rows view_is c.args.at c.requires))

read : (es : List Entry) (at : ℕ) (old : Entry) → at < length es → old ≡ get_or es at old → (d : Entry) → old ≡ get_or es at d
read es at old within is d = is ∙ Rattle.std.proofs.lemmas.List.get_or_default es at old d within

pub invariant_of-self : goal.invariant_of-self
invariant_of-self c =
    let es = c.self.inside.entries.items in
    let fr = c.self.inside.frames in
    let rows = c.args.self.now.rows in
    let view_is = ap (λ (t : Table). t.rows) c.self.view_is in
    let within = within_entries es fr rows view_is c.args.at c.requires in
    let slab = c.remove.ensures in
    rw c.remove-entry.ensures.items (removed_stored es fr c.self.invariant c.remove.new.self c.args.at c.remove-entry.result within (read es c.args.at c.remove-entry.result within c.remove-entry.ensures.value) slab.updates slab.len slab.capacity)

pub returns-clause-live : goal.returns-clause-live
returns-clause-live c d =
    let es = c.self.inside.entries.items in
    let fr = c.self.inside.frames in
    let rows = c.args.self.now.rows in
    let view_is = ap (λ (t : Table). t.rows) c.self.view_is in
    let within = within_entries es fr rows view_is c.args.at c.requires in
    let old = c.remove-entry.result in
    c.is_some.ensures ∙ sym (ap (λ (r : Row). is_some r.shown) (row_there es fr c.self.invariant rows view_is c.args.at old (read es c.args.at old within c.remove-entry.ensures.value) d c.requires) ∙ live_test fr old old.priority refl)

pub returns-clause-table : goal.returns-clause-table
returns-clause-table c =
    let es = c.self.inside.entries.items in
    let fr = c.self.inside.frames in
    let rows = c.args.self.now.rows in
    let view_is = ap (λ (t : Table). t.rows) c.self.view_is in
    let within = within_entries es fr rows view_is c.args.at c.requires in
    let slab = c.remove.ensures in
    with_rows _ (rows_in fr es) c.self.inside.moment (λ t. remove t.rows c.args.at) c.args.self.now c.self.view_is
    (ap (rows_in c.remove.new.self) c.remove-entry.ensures.items ∙ rows_removed es fr c.self.invariant c.remove.new.self c.args.at c.remove-entry.result within (read es c.args.at c.remove-entry.result within c.remove-entry.ensures.value) slab.updates)
