use Rattle.std.proofs.Common.{rules, ◌≡◌, ap, ◌∙◌}
use Rattle.sacn_patch.proofs.patch.level_once.Goals as goal

pub returns-then-before-channel : goal.returns-then-before-channel
returns-then-before-channel g c =
    let same : c.in-Some.before ≡ c.args.channel = search rules in
    c.requires (c.in-Some.before, c.in-Some.level) (search rules) ∙ ap (g.L.LevelOf.level c.args.levels.now) same
