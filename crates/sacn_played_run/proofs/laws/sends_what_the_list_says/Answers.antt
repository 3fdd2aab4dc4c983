use Rattle.std.proofs.Common.{◌++◌, ap, ◌∙◌}
use Rattle.sacn_played_source.specs.Played.{Played}
use Rattle.sacn_played_source.specs.Laws.{levels_on}
use Rattle.sacn_played_source.proofs.Told.{sends_what_the_list_says}
use Rattle.sacn_played_run.specs.Rounds.{run_calls}
use Rattle.sacn_played_run.specs.Endings.{end_calls}
use Rattle.sacn_played_run.proofs.Heard.{after_is}
use Rattle.sacn_played_run.proofs.laws.sends_what_the_list_says.Goals as goal

pub returns : goal.returns
returns c = λ sender us first p rs es u added named.
    ap (λ (s : Played). levels_on u s.source) (after_is sender us first (end_calls es ++ run_calls p rs))
    ∙ sends_what_the_list_says sender us first (end_calls es ++ run_calls p rs) u added named
