-- The answers of a player, by the calls before.
use Rattle.std.proofs.Common.{◌≡◌, ℕ, [], ◌∷◌, Option, refl}
use Rattle.sacn_cues.specs.Cues.{Cues}
use Rattle.sacn_cues.specs.Playing.{Played}
use Rattle.sacn_cues.specs.History.{Call, current_cue, accepted_commands, player_after, answer_to, AnswersFollowTheCalls}
use Rattle.sacn_cues.proofs.Histories.{steps_follow}

answered : (cues : Cues) (current : Option ℕ) (call : Call) (p : Played) → p.cues ≡ cues → p.current ≡ current → answer_to p.cues p.current call ≡ answer_to cues current call
answered cues current call p same is = rw (same, is) refl

pub answers_follow : AnswersFollowTheCalls
answers_follow cues [] = refl
answers_follow cues (call ∷ earlier) =
    let after = steps_follow cues earlier in
    rw (answered cues (current_cue cues (accepted_commands cues earlier)) call.1 (player_after cues earlier) after.list after.current, answers_follow cues earlier) refl
