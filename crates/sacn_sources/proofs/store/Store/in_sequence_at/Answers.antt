use Rattle.std.proofs.Common.{not, ap, sym, ◌∙◌}
use Rattle.sacn_sources.specs.Sequence.{is_late}
use Rattle.sacn_sources.specs.Rows.{Row, Table}
use Rattle.sacn_sources.proofs.Edits.{within_entries, row_there}
use Rattle.sacn_sources.proofs.store.Store.in_sequence_at.Goals as goal

pub entry_at-entry-requires : goal.entry_at-entry-requires
entry_at-entry-requires c = within_entries c.self.inside.entries.items c.self.inside.frames c.args.self.now.rows (ap (λ (t : Table). t.rows) c.self.view_is) c.args.at c.requires

pub returns : goal.returns
returns c d =
    let es = c.self.inside.entries.items in
    let fr = c.self.inside.frames in
    let rows = c.args.self.now.rows in
    let view_is = ap (λ (t : Table). t.rows) c.self.view_is in
    c.in_sequence.ensures.value
    ∙ ap (λ n. not (is_late c.entry_at-entry.result.now.sequence_number n)) c.number.ensures
    ∙ sym (ap (λ (r : Row). not (is_late r.sequence_number c.args.packet.now.number)) (row_there es fr c.self.invariant rows view_is c.args.at c.entry_at-entry.result.now c.entry_at-entry.ensures d c.requires))
