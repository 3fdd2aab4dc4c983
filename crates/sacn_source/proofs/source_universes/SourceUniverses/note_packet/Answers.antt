use Rattle.sacn_source.specs.Rows.{row_sent}
use Rattle.std.proofs.Common.{ap, ◌∙◌}
use Rattle.sacn_source.specs.declared.source_universe.SourceUniverse.{SourceUniverse}
use Rattle.sacn_source.proofs.Changes.{table_changed, ok_changed}
use Rattle.sacn_source.proofs.RowLemmas.{sent_ok, sent_universe}
use Rattle.sacn_source.proofs.source_universes.SourceUniverses.note_packet.Goals as goal

pub invariant_of-self : goal.invariant_of-self
invariant_of-self c = (
  c.self.invariant.0,
  ok_changed _ c.args.self.now c.args.place _ _ c.self.view_is c.self.invariant.1 c.requires c.index_mut-row.ensures.value (ap (λ (r : SourceUniverse). r.line.universe) c.note_packet.ensures ∙ sent_universe _ _) (λ ok. rw c.note_packet.ensures (sent_ok _ _ ok)),
)

pub returns : goal.returns
returns c = table_changed _ c.args.self.now c.args.place (row_sent c.args.moment) _ _ c.self.view_is c.self.invariant.1 c.requires c.index_mut-row.ensures.value c.note_packet.ensures
