use Rattle.std.proofs.Common.{sym, ◌∙◌, [], None}
use Rattle.std.proofs.lemmas.Option.{slice_get-get_or}
use Rattle.sacn_sources.proofs.Places.{row_at, row_absent}
use Rattle.sacn_sources.specs.Rows.{Row}
use Rattle.sacn_sources.proofs.store.Store.held.Goals as goal

abbrev blank : Row
blank = record { source = []; sequence_number = 0; shown = None; moment = 0 }

pub returns-in-Ok : goal.returns-in-Ok
returns-in-Ok c =
    let rows = c.args.self.now.rows in
    c.source_at.ensures ∙ slice_get-get_or rows c.in-Ok.at blank c.in-Ok.ensures.found.within ∙ sym (row_at c.args.cid.now rows c.in-Ok.at blank c.in-Ok.ensures.found)

pub returns-in-Err : goal.returns-in-Err
returns-in-Err c = sym (row_absent c.args.cid.now c.args.self.now.rows c.in-Err.field-0 c.in-Err.ensures.absent)
