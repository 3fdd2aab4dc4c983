use Rattle.std.proofs.Common.{ap, ◌∙◌, get_or, None}
use Rattle.std.proofs.lemmas.List.{get_or_default}
use Rattle.sacn_cues.specs.Levels.{begun_if_given, given_to}
use Rattle.sacn_cues.proofs.FadeStarts.{one_begun}
use Rattle.sacn_cues.proofs.fade.begin_at.Goals as goal

pub returns-clause-fades : goal.returns-clause-fades
returns-clause-fades c =
    one_begun c.args.times.up c.args.times.down c.args.now c.args.at c.args.targets.now c.args.fades.now c.begin_fade.new.fade c.requires.there c.requires.same (c.begin_fade.ensures ∙ ap (begun_if_given c.args.now (given_to c.args.times.up c.args.times.down (get_or c.args.targets.now c.args.at None))) (get_or_default c.args.fades.now c.args.at _ _ c.requires.there))
