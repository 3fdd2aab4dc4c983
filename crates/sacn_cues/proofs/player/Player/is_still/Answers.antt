use Rattle.std.proofs.Common.{rules, ◌≤◌, ◌<◌, max, subst, arith}
use Rattle.std.proofs.lemmas.Bool.Decides.{nat_tests}
use Rattle.sacn_cues.specs.Levels.{last_moment}
use Rattle.sacn_cues.specs.Playing.{level_shown, StaysAsItIs}
use Rattle.sacn_cues.proofs.player.Player.is_still.Goals as goal

pub returns-then-rest-self-clause-stays : goal.returns-then-rest-self-clause-stays
unfolding level_shown
returns-then-rest-self-clause-stays c before =
    let clear : c.rest-rest.result < last_moment = grind (arith, nat_tests, before) in
    let reached : c.rest-rest.result ≤ c.self.inside.moment = search rules in
    subst StaysAsItIs c.self.view_is (λ later channel. c.rest-rest.ensures.stays clear channel c.self.inside.moment (max c.self.inside.moment later) reached (omega (arith, reached)))
