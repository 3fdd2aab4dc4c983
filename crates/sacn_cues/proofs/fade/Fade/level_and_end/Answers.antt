use Rattle.std.proofs.Common.{◌≤◌, ◌-◌, subst, arith}
use Rattle.std.proofs.lemmas.Bool.Decides.{nat_tests}
use Rattle.sacn_cues.specs.Levels.{Ramp, IsOver}
use Rattle.sacn_cues.proofs.Stillness.{over_later}
use Rattle.sacn_cues.proofs.fade.Fade.level_and_end.Goals as goal

pub returns-clause-over : goal.returns-clause-over
returns-clause-over c over =
    let passed : c.self.inside.time ≤ c.args.now - c.self.inside.moment = grind (arith, nat_tests, over, c.faded.ensures.over, c.saturating_sub-elapsed.ensures) in
    subst (λ (f : Ramp). IsOver f c.args.now) c.self.view_is (over_later _ c.args.now passed)
