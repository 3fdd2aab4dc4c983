use Rattle.std.proofs.Common.{◌∷◌, [], ap, ◌∙◌}
use Rattle.sacn_edge.proofs.NodeLemmas.{Extends-append}
use Rattle.sacn_replay.specs.declared.replay.ReplayCore.{ReplayCore}
use Rattle.sacn_replay.specs.Runs.{Player, begun_player, readings}
use Rattle.sacn_replay.proofs.run.run_replay.Goals as goal

pub returns : goal.returns
returns g c = λ reel told.
    let start = c.now.result in
    let p : Player = begun_player start c.args.plan.now reel in
    let run = c.run_rounds.ensures p (told, c.new-core.ensures) in (
      start,
      run.0,
      run.1,
      run.2,
      run.3,
      Extends-append _ _ _ (start ∷ []) (readings run.0) c.now.ensures.told run.4,
      run.5,
      run.6,
      run.7,
      run.8.0,
      c.counts.ensures ∙ ap (λ (k : ReplayCore). k.counts) run.8.1,
    )
