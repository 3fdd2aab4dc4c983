use Rattle.std.proofs.Common.{ℕ, ◌*◌, ◌/◌, max, subst, ap, arith}
use Rattle.sacn_cues.specs.declared.limits.TheConstants.{FULL}
use Rattle.sacn_cues.specs.Playing.{Played, level_shown, LevelStays}
use Rattle.sacn_cues.proofs.player.Player.rests_now.Goals as goal

pub returns : goal.returns
unfolding level_shown
returns c told = subst (λ (p : Played). LevelStays p c.args.channel) c.self.view_is (λ later. ap (λ (n : ℕ). n * c.self.inside.master / FULL) (c.rests.ensures told (max c.self.inside.moment later) (omega arith)))
