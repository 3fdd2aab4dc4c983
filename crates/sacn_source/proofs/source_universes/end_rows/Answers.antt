use Rattle.std.proofs.Common.{slice_set, ap, ◌∙◌}
use Rattle.std.proofs.lemmas.List.Edits.{map_over_more}
use Rattle.sacn_console.proofs.WakeCores.{here_at}
use Rattle.sacn_source.specs.declared.source_universe.SourceUniverse.{SourceUniverse}
use Rattle.sacn_source.specs.Rows.{row_ended}
use Rattle.sacn_source.proofs.source_universes.end_rows.Goals as goal

pub loop-place-preserved : goal.loop-place-preserved
loop-place-preserved c =
    ap (λ (r : SourceUniverse). slice_set c.loop-place.rows c.loop-place.place r) c.end_running.ensures
    ∙ map_over_more row_ended c.args.rows.now c.loop-place.rows c.loop-place.place _ c.loop-place-test.true c.loop-place.invariant (here_at c.loop-place.rows c.loop-place.place _)
