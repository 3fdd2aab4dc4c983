use Rattle.std.proofs.Common.{◌+◌, slice_set, map, drop, ap, ◌∙◌}
use Rattle.std.proofs.lemmas.List.Edits.{map_over_more}
use Rattle.sacn_console.proofs.WakeCores.{here_at}
use Rattle.sacn_source.specs.Source.{Source}
use Rattle.sacn_played_source.specs.declared.played_universe.PlayedUniverse.{PlayedUniverse}
use Rattle.sacn_played_source.specs.Universes.{merged, all_sent}
use Rattle.sacn_played_source.proofs.Sending.{sent_next}
use Rattle.sacn_played_source.proofs.played_universe.send_all.Goals as goal

pub loop-place-preserved : goal.loop-place-preserved
loop-place-preserved c =
    let os = c.args.universes.now in
    let ys = c.loop-place.universes in
    let i = c.loop-place.place in
    record {
      universes = ap (λ (o : PlayedUniverse). slice_set ys i o) c.send.ensures.universe
          ∙ map_over_more (merged c.args.moment) os ys i _ c.loop-place-test.true c.loop-place.invariant.universes (here_at ys i _);
      source = ap (λ (s : Source). all_sent (map (merged c.args.moment) (drop (i + 1) os)) s) c.send.ensures.source
          ∙ sent_next c.args.moment os ys i _ c.loop-place.source c.loop-place-test.true c.loop-place.invariant.universes
          ∙ c.loop-place.invariant.source;
    }
