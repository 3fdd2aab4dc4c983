use Rattle.std.proofs.Common.{subst}
use Rattle.std.specs.List.{AllByRecursion}
use Rattle.sacn_source.specs.Table.{Table, RowOk}
use Rattle.sacn_source.proofs.source_universes.SourceUniverses.tell.Goals as goal

pub returns : goal.returns
returns c = subst (λ (t : Table). AllByRecursion RowOk t.rows) c.self.view_is c.self.invariant.1.all
