use Rattle.std.proofs.Common.{ap}
use Rattle.sacn_source.specs.declared.source_universe.SourceUniverse.{SourceUniverse}
use Rattle.sacn_console.specs.declared.limits.TheConstants.{TERMINATIONS}
use Rattle.sacn_console.specs.declared.line.State.TheVariants.{Ending}
use Rattle.sacn_source.specs.Rows.{row_in}
use Rattle.sacn_source.proofs.Changes.{table_changed, ok_changed}
use Rattle.sacn_source.proofs.RowLemmas.{in_ok}
use Rattle.sacn_source.proofs.source_universes.SourceUniverses.end_at.Goals as goal

pub invariant_of-self : goal.invariant_of-self
invariant_of-self c = (
  c.self.invariant.0,
  ok_changed _ c.args.self.now c.args.place _ _ c.self.view_is c.self.invariant.1 c.requires c.index_mut-row.ensures.value (ap (λ (r : SourceUniverse). r.line.universe) c.end.ensures) (λ ok. rw c.end.ensures (in_ok _ _ ok)),
)

pub returns : goal.returns
returns c = table_changed _ c.args.self.now c.args.place (row_in (Ending TERMINATIONS)) _ _ c.self.view_is c.self.invariant.1 c.requires c.index_mut-row.ensures.value c.end.ensures
