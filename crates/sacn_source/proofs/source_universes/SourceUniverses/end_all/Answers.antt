use Rattle.sacn_source.proofs.RowLemmas.{ok_ended, ended_long}
use Rattle.sacn_source.proofs.source_universes.SourceUniverses.end_all.Goals as goal

pub invariant_of-self : goal.invariant_of-self
invariant_of-self c = (
  c.self.invariant.0,
  ok_ended _ _ c.self.invariant.1 (ended_long c.self.inside.rows c.deref_mut.result.now _ c.deref_mut.ensures.value c.end_rows.ensures),
)
