use Rattle.std.proofs.Common.{ap, refl, None}
use Rattle.sacn_console.specs.declared.line.State.TheVariants.{Running}
use Rattle.sacn_source.specs.declared.source_universe.SourceUniverse.{SourceUniverse}
use Rattle.sacn_source.specs.Rows.{row_in}
use Rattle.sacn_source.proofs.Changes.{table_set, ok_changed}
use Rattle.sacn_source.proofs.RowLemmas.{in_ok}
use Rattle.sacn_source.proofs.source_universes.SourceUniverses.begin.Goals as goal

pub invariant_of-self : goal.invariant_of-self
invariant_of-self c = (
  c.self.invariant.0,
  ok_changed _ c.args.self.now c.args.place _ _ c.self.view_is c.self.invariant.1 c.requires c.index_mut-row.ensures.value (ap (λ (r : SourceUniverse). r.line.universe) c.begin.ensures) (λ ok. rw c.begin.ensures (in_ok _ _ ok)),
)

pub returns-in_err-can_begin-clause-table : goal.returns-in_err-can_begin-clause-table
returns-in_err-can_begin-clause-table c = rw (← c.in_err-can_begin.ensures) refl

pub returns-clause-table : goal.returns-clause-table
returns-clause-table c = rw (← c.in_ok-can_begin.ensures) (table_set _ c.args.self.now c.args.place (row_in (Running None)) _ _ c.self.view_is c.requires c.index_mut-row.ensures.value c.begin.ensures)
