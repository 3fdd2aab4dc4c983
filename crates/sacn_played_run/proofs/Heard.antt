-- What the calls of a run take.
use Rattle.std.proofs.Common.{◌≡◌, ℕ, zero, suc, List, [], ◌∷◌, ◌++◌, map, Option, Some, None, append_assoc, append-nil, refl, sym, ap, ◌∙◌}
use Rattle.sacn_console.specs.declared.sender.Sender.{Sender}
use Rattle.sacn_replay.specs.declared.step.Step.{Step}
use Rattle.sacn_replay.specs.declared.step.Step.TheVariants.{Wait, Send, Skip, Pass, Again, End, Rest}
use Rattle.sacn_replay.specs.Heads as head
use Rattle.sacn_replay.specs.Reels.{next_moment, next_octets}
use Rattle.sacn_replay.specs.Runs.{Player, after_rounds, octets_sent, played, run_sends, sends, step_taken}
use Rattle.sacn_played_source.specs.Played.{new_played}
use Rattle.sacn_played_source.specs.Calls.{Call, Hear, Advance, Rewind, Poll, EndAll, after_calls, step}
use Rattle.sacn_played_run.specs.Calls.{after, polls}
use Rattle.sacn_played_run.specs.Taking.{calls_at, due_calls, moment_or_0, step_calls}
use Rattle.sacn_played_run.specs.Rounds.{SourceRound, advance_calls, bare, round_calls, run_calls}
use Rattle.sacn_played_run.specs.Endings.{EndRound, end_calls}
use Rattle.sacn_played_run.specs.Laws.{TakesWhatIsDue, heard_in}

heard_both : (a b : List Call) → heard_in (a ++ b) ≡ heard_in b ++ heard_in a
heard_both [] b = sym (append-nil (heard_in b))
heard_both (Hear moment octets ∷ a) b =
    ap (λ (xs : List (List ℕ)). xs ++ octets ∷ []) (heard_both a b) ∙ append_assoc (heard_in b) (heard_in a) (octets ∷ [])
heard_both (Advance moment ∷ a) b = heard_both a b
heard_both (Rewind ∷ a) b = heard_both a b
heard_both (Poll now ∷ a) b = heard_both a b
heard_both (EndAll ∷ a) b = heard_both a b

polls_hear : (now n : ℕ) (b : List Call) → heard_in (polls now n ++ b) ≡ heard_in b
polls_hear now zero b = refl
polls_hear now (suc n) b = polls_hear now n b

step_hears : (step : Step) (moment : ℕ) (octets : List ℕ) → heard_in (step_calls step moment octets) ≡ octets_sent step octets
step_hears Send moment octets = refl
step_hears Again moment octets = refl
step_hears Skip moment octets = refl
step_hears Pass moment octets = refl
step_hears (Wait until) moment octets = refl
step_hears End moment octets = refl
step_hears Rest moment octets = refl

due_hears : (now n : ℕ) (p : Player) → heard_in (due_calls now n p) ≡ sends now n p
due_hears now zero p = refl
due_hears now (suc n) p =
    let q : Player = played now n p in
    heard_both (calls_at now q) (due_calls now n p)
    ∙ ap (λ (xs : List (List ℕ)). xs ++ heard_in (calls_at now q)) (due_hears now n p)
    ∙ ap (λ (xs : List (List ℕ)). sends now n p ++ xs) (step_hears (step_taken now q) (moment_or_0 (next_moment q.reel.left)) (next_octets q.reel.left))

advance_hears : (came_to : Option Step) (moment : ℕ) (b : List Call) → heard_in (advance_calls came_to moment ++ b) ≡ heard_in b
advance_hears None moment b = refl
advance_hears (Some step) moment b = refl

round_hears : (r : SourceRound) (p : Player) → heard_in (round_calls r p) ≡ sends r.round.now r.round.steps p
round_hears r p =
    polls_hear r.round.now r.polls (advance_calls r.round.came_to (head.played (played r.round.now r.round.steps p).core.head) ++ due_calls r.round.now r.round.steps p)
    ∙ advance_hears r.round.came_to (head.played (played r.round.now r.round.steps p).core.head) (due_calls r.round.now r.round.steps p)
    ∙ due_hears r.round.now r.round.steps p

run_hears : (p : Player) (rs : List SourceRound) → heard_in (run_calls p rs) ≡ run_sends p (map bare rs)
run_hears p [] = refl
run_hears p (r ∷ rs) =
    let q : Player = after_rounds p (map bare rs) in
    heard_both (round_calls r q) (run_calls p rs)
    ∙ ap (λ (xs : List (List ℕ)). xs ++ heard_in (round_calls r q)) (run_hears p rs)
    ∙ ap (λ (xs : List (List ℕ)). run_sends p (map bare rs) ++ xs) (round_hears r q)

end_hears : (es : List EndRound) (b : List Call) → heard_in (end_calls es ++ b) ≡ heard_in b
end_hears [] b = refl
end_hears (e ∷ es) b =
    ap heard_in (append_assoc (polls e.now e.polls) (end_calls es) b) ∙ polls_hear e.now e.polls (end_calls es ++ b) ∙ end_hears es b

pub takes_due : TakesWhatIsDue
takes_due p rs es = end_hears es (run_calls p rs) ∙ run_hears p rs

pub after_is : (sender : Sender) (us : List ℕ) (first : ℕ) (calls : List Call) → after calls (new_played sender us first) ≡ after_calls sender us first calls
after_is sender us first [] = refl
after_is sender us first (call ∷ earlier) = ap (step call) (after_is sender us first earlier)
