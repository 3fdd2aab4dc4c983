use Rattle.std.proofs.Common.{◌-◌, Some, ap, ◌∙◌, arith}
use Rattle.std.proofs.lemmas.List.{get_or_default}
use Rattle.sacn_cues.specs.Levels.{begun_if_given}
use Rattle.sacn_cues.proofs.FadeStarts.{one_set}
use Rattle.sacn_cues.proofs.fade.set_one.Goals as goal

pub returns : goal.returns
returns c = one_set c.args.channel c.args.level c.args.now 1 (c.args.channel - 1) c.args.fades.now c.begin_fade.new.fade (omega arith) (omega arith) (c.begin_fade.ensures ∙ ap (begun_if_given c.args.now (Some (record { level = c.args.level; up = 0; down = 0 }))) (get_or_default c.args.fades.now (c.args.channel - 1) _ _ (omega arith)))
