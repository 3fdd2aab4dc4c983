use Rattle.std.proofs.Common.{[], length, get_or, ap, sym, ◌∙◌, arith}
use Rattle.std.proofs.lemmas.List.{length-map}
use Rattle.sacn_sources.specs.Rows.{rows_kept, row_of}
use Rattle.sacn_sources.specs.LatestMerge.{new_kept}
use Rattle.sacn_node.specs.Cores.{Table, Core, row_on}
use Rattle.sacn_node.specs.Storage.{seen}
use Rattle.sacn_node.proofs.Expiry.{seen_there}
use Rattle.sacn_node.proofs.Places.{table_at, table_absent}
use Rattle.sacn_node.proofs.tables.Tables.held.Goals as goal

abbrev blank : Table
blank = record { universe = 0; rows = [] }

pub returns-in-Ok : goal.returns-in-Ok
returns-in-Ok c =
    let found = c.in-Ok.ensures.found in
    sym (ap (row_on c.args.cid.now) (table_at c.args.universe (λ rs. rs) c.args.self.now.tables c.in-Ok.at blank found.0 found.1 found.2)
    ∙ ap (λ (n : Core). row_of c.args.cid.now (get_or n.tables c.in-Ok.at blank).rows) (sym c.self.view_is)
    ∙ ap (λ (g : Table). row_of c.args.cid.now g.rows) (seen_there rows_kept c.self.inside.moment c.self.inside.earliest c.self.inside.list.items c.in-Ok.at c.index.result.now new_kept (omega (arith, found.0, ap (λ (n : Core). length n.tables) c.self.view_is, length-map c.self.inside.list.items seen)) c.index.ensures c.self.invariant blank)
    ∙ sym c.held.ensures)

pub returns-in-Err : goal.returns-in-Err
returns-in-Err c = sym (ap (row_on c.args.cid.now) (table_absent c.args.universe (λ rs. rs) c.args.self.now.tables c.in-Err.field-0 c.in-Err.ensures.absent))
