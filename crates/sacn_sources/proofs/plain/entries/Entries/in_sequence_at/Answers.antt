use Rattle.std.proofs.Common.{not, ap, sym, ◌∙◌}
use Rattle.sacn_sources.specs.Sequence.{is_late}
use Rattle.sacn_sources.specs.Rows.{Row, Table}
use Rattle.sacn_sources.proofs.PlainEdits.{within_plain, plain_there}
use Rattle.sacn_sources.proofs.plain.entries.Entries.in_sequence_at.Goals as goal

pub plain_entry_at-entry-requires : goal.plain_entry_at-entry-requires
plain_entry_at-entry-requires c = within_plain c.self.inside.items.items c.args.self.now.rows (ap (λ (t : Table). t.rows) c.self.view_is) c.args.at c.requires

pub returns : goal.returns
returns c d =
    let es = c.self.inside.items.items in
    let rows = c.args.self.now.rows in
    let view_is = ap (λ (t : Table). t.rows) c.self.view_is in
    c.in_sequence.ensures.value
    ∙ ap (λ n. not (is_late c.plain_entry_at-entry.result.now.sequence_number n)) c.number.ensures
    ∙ sym (ap (λ (r : Row). not (is_late r.sequence_number c.args.packet.now.number)) (plain_there es rows view_is c.args.at c.requires c.plain_entry_at-entry.result.now c.plain_entry_at-entry.ensures d))
