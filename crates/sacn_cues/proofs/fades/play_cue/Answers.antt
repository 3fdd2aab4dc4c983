use Rattle.std.proofs.Common.{ℕ, length, refl, sym, ap, ◌∙◌}
use Rattle.sacn_cues.specs.Cues.{level_of_channel}
use Rattle.sacn_cues.specs.Levels.{all_begun, given_to}
use Rattle.sacn_cues.proofs.Steps.{cue_begun}
use Rattle.sacn_cues.proofs.fades.play_cue.Goals as goal

pub returns-clause-targets : goal.returns-clause-targets
returns-clause-targets c =
    (cue_begun (length c.args.fades.now) c.args.now c.times-times.result.up c.times-times.result.down c.args.cue.now.levels c.args.targets.now c.aim.new.targets c.begin.new.targets c.args.fades.now c.begin.new.fades refl c.requires c.aim.ensures c.begin.ensures.targets c.begin.ensures.fades).0
    ∙ sym c.requires

pub returns-clause-fades : goal.returns-clause-fades
returns-clause-fades c =
    (cue_begun (length c.args.fades.now) c.args.now c.times-times.result.up c.times-times.result.down c.args.cue.now.levels c.args.targets.now c.aim.new.targets c.begin.new.targets c.args.fades.now c.begin.new.fades refl c.requires c.aim.ensures c.begin.ensures.targets c.begin.ensures.fades).1
    ∙ ap (λ (up : ℕ). all_begun (λ channel. given_to up c.times-times.result.down (level_of_channel c.args.cue.now.levels channel)) c.args.now 1 c.args.fades.now) c.times-times.ensures.up
    ∙ ap (λ (down : ℕ). all_begun (λ channel. given_to c.args.cue.now.up down (level_of_channel c.args.cue.now.levels channel)) c.args.now 1 c.args.fades.now) c.times-times.ensures.down
