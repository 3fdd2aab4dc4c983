use Rattle.std.proofs.Common.{ap}
use Rattle.sacn_source.specs.declared.source_universe.SourceUniverse.{SourceUniverse}
use Rattle.sacn_source.specs.Rows.{row_showing, slots_of}
use Rattle.sacn_source.proofs.Changes.{table_changed, table_set, ok_changed}
use Rattle.sacn_source.proofs.RowLemmas.{showing_ok}
use Rattle.sacn_source.proofs.source_universes.SourceUniverses.show.Goals as goal

pub invariant_of-self : goal.invariant_of-self
invariant_of-self c = (
  c.self.invariant.0,
  ok_changed _ c.args.self.now c.args.place _ _ c.self.view_is c.self.invariant.1 c.requires.there c.index_mut-row.ensures.value (ap (λ (r : SourceUniverse). r.line.universe) c.show.ensures) (λ ok. rw c.show.ensures (showing_ok c.args.levels.now _ c.requires.few ok)),
)

pub returns-clause-written : goal.returns-clause-written
returns-clause-written c = table_set _ c.args.self.now c.args.place (row_showing (slots_of c.args.levels.now)) _ _ c.self.view_is c.requires.there c.index_mut-row.ensures.value c.show.ensures

pub returns-clause-changed : goal.returns-clause-changed
returns-clause-changed c = table_changed _ c.args.self.now c.args.place (row_showing (slots_of c.args.levels.now)) _ _ c.self.view_is c.self.invariant.1 c.requires.there c.index_mut-row.ensures.value c.show.ensures
