use Rattle.std.proofs.Common.{◌∷◌, ◌++◌, [], subst, ap, ◌∙◌}
use Rattle.sacn_edge.proofs.NodeLemmas.{Extends-append}
use Rattle.sacn_edge.proofs.ConsoleLemmas.{Hands-append}
use Rattle.sacn_replay.specs.declared.replay.ReplayCore.{ReplayCore}
use Rattle.sacn_replay.specs.Runs.{Player, begun_player}
use Rattle.sacn_played_source.specs.Played.{Played}
use Rattle.sacn_played_run.specs.Calls.{after}
use Rattle.sacn_played_run.specs.Rounds.{readings, run_calls, run_talk}
use Rattle.sacn_played_run.specs.Endings.{IsEnd, end_calls, end_readings, end_talk}
use Rattle.sacn_played_run.proofs.Calling.{after_more, given_more, told_end}
use Rattle.sacn_played_run.proofs.run.run_as_source.Goals as goal

pub returns-in-Ok : goal.returns-in-Ok
returns-in-Ok g c = λ reel told.
    let start = c.now.result in
    let p : Player = begun_player start c.args.plan.now reel in
    let run = c.in-Ok.ensures p (told, c.new-core.ensures) in
    let rs = run.0 in
    let first = c.args.source.now in
    let mid = c.run_rounds-played.new.source in
    let e = c.end.ensures in
    let es = e.0 in (
      start,
      rs,
      es,
      run.1 ++ e.1,
      run.2,
      run.3,
      subst (λ (s : Played). IsEnd es s) run.8 e.2,
      Extends-append _ _ _ (start ∷ []) (readings rs ++ end_readings es) c.now.ensures.told (Extends-append _ _ _ (readings rs) (end_readings es) run.4 e.3),
      Extends-append _ _ _ (run_talk p rs) (end_talk es (after (run_calls p rs) first)) run.5 (told_end _ _ es mid (after (run_calls p rs) first) run.8 e.4),
      Hands-append _ _ _ run.1 e.1 run.6 e.5,
      given_more (end_calls es) (run_calls p rs) first mid run.8 run.1 e.1 run.7 e.6,
      after_more (end_calls es) (run_calls p rs) first mid run.8 _ e.7,
      run.9.0,
      c.counts.ensures ∙ ap (λ (k : ReplayCore). k.counts) run.9.1,
    )
