use Rattle.std.proofs.Common.{ℕ, List, Some, IsSome, get_or, set, refl, ap, sym, subst, ◌∙◌}
use Rattle.slab.specs.Slab.{get, with_value}
use Rattle.sacn_sources.specs.declared.entry.Entry.{Entry}
use Rattle.sacn_sources.specs.Rows.{Row, Table, row_live}
use Rattle.sacn_sources.specs.Places.{IsAt}
use Rattle.sacn_sources.specs.Storage.{rows_in}
use Rattle.sacn_sources.specs.Packets.{packet_of}
use Rattle.sacn_sources.proofs.Searches.{blank}
use Rattle.sacn_sources.proofs.Edits.{within_entries, has_levels, levels_stored, levels_set, with_rows, read_at}
use Rattle.sacn_sources.proofs.store.Store.show.Goals as goal

pub renew-key-requires : goal.renew-key-requires
renew-key-requires c = within_entries c.self.inside.entries.items c.self.inside.frames c.args.self.now.rows (ap (λ (t : Table). t.rows) c.self.view_is) c.args.at c.requires.within

pub index_mut-requires : goal.index_mut-requires
index_mut-requires c =
    let es = c.self.inside.entries.items in
    let fr = c.self.inside.frames in
    let rows = c.args.self.now.rows in
    let view_is = ap (λ (t : Table). t.rows) c.self.view_is in
    let read = read_at es fr rows view_is c.args.at c.requires.within blank in
    subst (λ k. IsSome (get fr k)) (sym (c.renew-key.ensures.key blank)) (has_levels es fr c.self.invariant rows view_is c.args.at (get_or es c.args.at blank) read c.requires.within)

pub invariant_of-self : goal.invariant_of-self
invariant_of-self c =
    let es = c.self.inside.entries.items in
    let fr = c.self.inside.frames in
    let rows = c.args.self.now.rows in
    let view_is = ap (λ (t : Table). t.rows) c.self.view_is in
    let old : Entry = get_or es c.args.at blank in
    let read = read_at es fr rows view_is c.args.at c.requires.within blank in
    rw (c.renew-key.ensures.entries blank, c.renew-key.ensures.key blank) (levels_stored es fr c.self.invariant rows view_is c.args.at old read c.args.packet.now.cid c.requires _ refl refl c.overwrite.new.levels)

pub returns : goal.returns
returns c =
    let es = c.self.inside.entries.items in
    let fr = c.self.inside.frames in
    let rows = c.args.self.now.rows in
    let view_is = ap (λ (t : Table). t.rows) c.self.view_is in
    let is_at = subst (λ rs. IsAt rs c.args.packet.now.cid c.args.at) (sym view_is) c.requires in
    let old : Entry = get_or es c.args.at blank in
    let read = read_at es fr rows view_is c.args.at c.requires.within blank in
    let p = packet_of c.args.packet.now in
    let before = rows_in fr es in
    let renewed : Entry = record old { sequence_number = c.number-sequence_number.result; priority = Some c.priority-priority.result; moment = c.self.inside.moment } in
    let row_with : ℕ → ℕ → List ℕ → Row = λ n q xs. record { source = c.args.packet.now.cid; sequence_number = n; shown = Some (record { priority = q; levels = xs }); moment = c.self.inside.moment } in
    with_rows _ before c.self.inside.moment (λ t. set t.rows c.args.at (row_live p t.moment)) c.args.self.now c.self.view_is
    (ap (rows_in (with_value fr c.renew-key.result c.overwrite.new.levels)) (c.renew-key.ensures.entries blank)
    ∙ ap (λ k. rows_in (with_value fr k c.overwrite.new.levels) (set es c.args.at renewed)) (c.renew-key.ensures.key blank)
    ∙ levels_set es fr c.self.invariant before refl c.args.at old read c.args.packet.now.cid is_at _ refl refl c.overwrite.new.levels c.priority-priority.result refl
    ∙ ap (λ n. set before c.args.at (row_with n c.priority-priority.result c.overwrite.new.levels)) c.number-sequence_number.ensures
    ∙ ap (λ q. set before c.args.at (row_with c.args.packet.now.number q c.overwrite.new.levels)) c.priority-priority.ensures.priority
    ∙ ap (λ xs. set before c.args.at (row_with c.args.packet.now.number c.args.packet.now.priority xs)) (c.overwrite.ensures ∙ c.slots.ensures.slots))
