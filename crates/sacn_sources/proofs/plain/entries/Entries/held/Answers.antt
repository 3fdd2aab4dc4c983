use Rattle.std.proofs.Common.{Option, Some, ap, sym, ◌∙◌}
use Rattle.std.specs.Option.{option_map}
use Rattle.sacn_sources.specs.Layers.{shown_of}
use Rattle.sacn_sources.specs.Merge.{Shown}
use Rattle.sacn_sources.specs.Rows.{Row, Table}
use Rattle.sacn_sources.specs.PlainStorage.{plain_row}
use Rattle.sacn_sources.proofs.PlainEdits.{within_plain, plain_there}
use Rattle.sacn_sources.proofs.PlainLayers.{plain_live, plain_ended}
use Rattle.sacn_sources.proofs.Places.{row_at, row_absent}
use Rattle.sacn_sources.proofs.plain.entries.Entries.held.Goals as goal
use Rattle.sacn_sources.proofs.plain.entries.Entries.held.Goals.{in-Some, in-None}

pub returns-in_default : goal.returns-in_default
returns-in_default c = sym (row_absent c.args.cid.now c.args.self.now.rows c.in_default.field-0 c.in_default.ensures.absent)

pub plain_entry_at-entry-requires : goal.plain_entry_at-entry-requires
plain_entry_at-entry-requires c = within_plain c.self.inside.items.items c.args.self.now.rows (ap (λ (t : Table). t.rows) c.self.view_is) c.in-Ok.at c.in-Ok.ensures.found.within

pub returns : goal.returns
returns c =
    let es = c.self.inside.items.items in
    let rows = c.args.self.now.rows in
    let view_is = ap (λ (t : Table). t.rows) c.self.view_is in
    let is_at = c.in-Ok.ensures.found in
    let e = c.plain_entry_at-entry.result.now in
    let of : Option Shown → Option Row = λ shown. Some (record { source = e.cid; sequence_number = e.sequence_number; shown = shown; moment = e.moment }) in
    let there = row_at c.args.cid.now rows c.in-Ok.at (plain_row e) is_at ∙ ap (λ r. Some r) (plain_there es rows view_is c.in-Ok.at is_at.within e c.plain_entry_at-entry.ensures (plain_row e)) in
    ap of (elim c.match-entry.branch [
      | in-Some w ↦ ap (option_map shown_of) w.shown-is ∙ sym (plain_live e w.in-Some.priority w.in-Some.is)
      | in-None w ↦ ap (option_map shown_of) w.shown-is ∙ sym (plain_ended e w.in-None.is)
    ]) ∙ sym there
