use Rattle.std.proofs.Common.{ap, ◌∙◌, arith}
use Rattle.std.specs.List.{remove}
use Rattle.sacn_sources.specs.Rows.{Table}
use Rattle.sacn_sources.specs.PlainStorage.{plain_rows}
use Rattle.sacn_sources.proofs.PlainEdits.{within_plain, plain_removed, removed_ordered}
use Rattle.sacn_sources.proofs.Edits.{with_rows}
use Rattle.sacn_sources.proofs.plain.entries.Entries.drop_at.Goals as goal

pub remove-requires : goal.remove-requires
remove-requires c = (omega arith, within_plain c.self.inside.items.items c.args.self.now.rows (ap (λ (t : Table). t.rows) c.self.view_is) c.args.at c.requires)

pub invariant_of-self : goal.invariant_of-self
invariant_of-self c =
    let es = c.self.inside.items.items in
    let rows = c.args.self.now.rows in
    let view_is = ap (λ (t : Table). t.rows) c.self.view_is in
    rw c.remove.ensures.items (removed_ordered es c.self.invariant c.args.at (within_plain es rows view_is c.args.at c.requires))

pub returns : goal.returns
returns c =
    let es = c.self.inside.items.items in
    let rows = c.args.self.now.rows in
    let view_is = ap (λ (t : Table). t.rows) c.self.view_is in
    with_rows _ (plain_rows es) c.self.inside.moment (λ t. remove t.rows c.args.at) c.args.self.now c.self.view_is
    (ap plain_rows c.remove.ensures.items ∙ plain_removed es c.self.invariant c.args.at (within_plain es rows view_is c.args.at c.requires))
