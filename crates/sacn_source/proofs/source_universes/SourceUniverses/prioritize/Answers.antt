use Rattle.std.proofs.Common.{ap, ◌∙◌}
use Rattle.sacn_source.specs.declared.source_universe.SourceUniverse.{SourceUniverse}
use Rattle.sacn_source.specs.Rows.{row_prior}
use Rattle.sacn_source.proofs.Changes.{table_changed, ok_changed}
use Rattle.sacn_source.proofs.RowLemmas.{prior_ok, prior_universe}
use Rattle.sacn_source.proofs.source_universes.SourceUniverses.prioritize.Goals as goal

pub invariant_of-self : goal.invariant_of-self
invariant_of-self c = (
  c.self.invariant.0,
  ok_changed _ c.args.self.now c.args.place _ _ c.self.view_is c.self.invariant.1 c.requires.there c.index_mut-row.ensures.value (ap (λ (r : SourceUniverse). r.line.universe) c.set_priority.ensures ∙ prior_universe c.args.priority _) (λ ok. rw c.set_priority.ensures (prior_ok c.args.priority _ c.requires.least ok)),
)

pub returns : goal.returns
returns c = table_changed _ c.args.self.now c.args.place (row_prior c.args.priority) _ _ c.self.view_is c.self.invariant.1 c.requires.there c.index_mut-row.ensures.value c.set_priority.ensures
