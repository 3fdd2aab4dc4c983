-- One round after another of a source that plays a recording.
use Rattle.std.proofs.Common.{◌≡◌, ℕ, zero, suc, min, Bool, List, [], ◌∷◌, ◌++◌, length, Option, Some, None, is_some, refl, sym, ap, subst, ◌∙◌, arith}
use Rattle.sacn_edge.specs.Additions.{Extends}
use Rattle.sacn_edge.specs.ConsoleSends.{Handed, datagrams}
use Rattle.sacn_edge.proofs.NodeLemmas.{Extends-append}
use Rattle.sacn_replay.specs.declared.head.Playhead.{Playhead}
use Rattle.sacn_replay.specs.declared.replay.ReplayCore.{ReplayCore}
use Rattle.sacn_replay.specs.declared.run.Next.{Next}
use Rattle.sacn_replay.specs.declared.run.Next.TheVariants.{Round as NextRound, Wait as NextWait, Nothing}
use Rattle.sacn_replay.specs.declared.step.Step.{Step}
use Rattle.sacn_replay.specs.declared.step.Step.TheVariants.{Wait, Send, Skip, Pass, Again, End, Rest}
use Rattle.sacn_replay.specs.Heads as head
use Rattle.sacn_replay.specs.Reels.{next_moment, next_octets}
use Rattle.sacn_replay.specs.Talks.{Talk, Looked}
use Rattle.sacn_replay.specs.Runs.{Player, after_round, asked_for, closing, is_last, is_over, next_of, played, step_taken}
use Rattle.sacn_played_source.specs.Played.{Played}
use Rattle.sacn_played_source.specs.Calls.{Call}
use Rattle.sacn_played_run.specs.Calls.{after, given_by, polls}
use Rattle.sacn_played_run.specs.Taking.{calls_at, due_calls, moment_or_0, step_calls}
use Rattle.sacn_played_run.specs.Rounds.{SourceRound, advance_calls, loss_reading, next_after, round_calls, sooner, source_talk}
use Rattle.sacn_played_run.specs.Endings.{EndRound, AllOwe, AreEndRounds, IsEnd}
use Rattle.sacn_played_run.proofs.Calling.{after_both, after_more, given_both}

-- ---- what a round says

over_sooner : (wake : ℕ) (next : Next) (ends : Bool) → is_over (sooner wake next) ends ≡ is_over next ends
over_sooner wake NextRound ends = refl
over_sooner wake (NextWait until) ends = refl
over_sooner wake Nothing ends = refl

module _ (r : SourceRound) (p : Player) where
  pub next_is : (core : ReplayCore) → core ≡ (after_round r.round p).core → (is_ordered : Bool) → is_ordered ≡ is_some r.round.order → (first : Next) → first ≡ next_of r.round.came_to is_ordered
      → (wake : ℕ) → wake ≡ min r.wakes (loss_reading r.loss core.head) → (next : Next) → next ≡ sooner wake first → next ≡ next_after r p
  next_is core is is_ordered ordered first firsts wake wakes next nexts =
      let first_is : first ≡ next_of r.round.came_to (is_some r.round.order) = firsts ∙ ap (next_of r.round.came_to) ordered in
      let wake_is : wake ≡ min r.wakes (loss_reading r.loss (after_round r.round p).core.head) = wakes ∙ ap (λ (k : ReplayCore). min r.wakes (loss_reading r.loss k.head)) is in
      nexts ∙ (λ i. sooner (wake_is i) (first_is i))

  module _ (next : Next) (is : next ≡ next_after r p) where
    pub talk_round : (a b c d : Option (List Talk)) (core : ReplayCore) → core ≡ (after_round r.round p).core → Extends a b (asked_for r.round.now r.round.came_to r.round.order)
        → Extends b c (Looked core ∷ []) → Extends c d (closing next r.round.ends) → Extends a d (source_talk r p)
    talk_round a b c d core core_is asks looks closes =
        let look : Talk = Looked (after_round r.round p).core in
        let close : List Talk = closing (next_after r p) r.round.ends in
        Extends-append a b d (asked_for r.round.now r.round.came_to r.round.order) (look ∷ close) asks
        (Extends-append b c d (look ∷ []) close (subst (λ (k : ReplayCore). Extends b c (Looked k ∷ [])) core_is looks) (subst (λ (x : Next). Extends c d (closing x r.round.ends)) is closes))

    pub over_round : (over : Bool) → over ≡ is_over next r.round.ends → over ≡ is_last r.round
    over_round over closed =
        closed
        ∙ ap (λ (x : Next). is_over x r.round.ends) is
        ∙ over_sooner (min r.wakes (loss_reading r.loss (after_round r.round p).core.head)) (next_of r.round.came_to (is_some r.round.order)) r.round.ends

-- ---- what a round makes of the source

step_gives : (step : Step) (moment : ℕ) (octets : List ℕ) (s : Played) → given_by (step_calls step moment octets) s ≡ []
step_gives Send moment octets s = refl
step_gives Again moment octets s = refl
step_gives Skip moment octets s = refl
step_gives Pass moment octets s = refl
step_gives (Wait until) moment octets s = refl
step_gives End moment octets s = refl
step_gives Rest moment octets s = refl

-- what is taken hands nothing over
due_gives : (now n : ℕ) (p : Player) (s : Played) → given_by (due_calls now n p) s ≡ []
due_gives now zero p s = refl
due_gives now (suc n) p s =
    let q : Player = played now n p in
    let t : Played = after (due_calls now n p) s in
    given_both (calls_at now q) (due_calls now n p) s
    ∙ ap (λ (xs : List (List ℕ)). xs ++ given_by (calls_at now q) t) (due_gives now n p s)
    ∙ step_gives (step_taken now q) (moment_or_0 (next_moment q.reel.left)) (next_octets q.reel.left) t

advance_gives : (came_to : Option Step) (moment : ℕ) (s : Played) → given_by (advance_calls came_to moment) s ≡ []
advance_gives None moment s = refl
advance_gives (Some step) moment s = refl

module _ (r : SourceRound) (p : Player) (s mid advanced new : Played) (took : mid ≡ after (due_calls r.round.now r.round.steps p) s) (at : Playhead) (at_is : at ≡ (played r.round.now r.round.steps p).core.head) (advances : advanced ≡ after (advance_calls r.round.came_to (head.played at)) mid) (sends : new ≡ after (polls r.round.now r.polls) advanced) where
  abbrev dues : List Call
  dues = due_calls r.round.now r.round.steps p

  abbrev advance : List Call
  advance = advance_calls r.round.came_to (head.played (played r.round.now r.round.steps p).core.head)

  abbrev before : List Call
  before = advance ++ dues

  advanced_is : advanced ≡ after before s
  advanced_is = advances ∙ (λ i. after (advance_calls r.round.came_to (head.played (at_is i))) (took i)) ∙ sym (after_both advance dues s)

  pub source_round : new ≡ after (round_calls r p) s
  source_round = after_more (polls r.round.now r.polls) before s advanced advanced_is new sends

  before_gives : given_by before s ≡ []
  before_gives =
      given_both advance dues s
      ∙ ap (λ (xs : List (List ℕ)). xs ++ given_by advance (after dues s)) (due_gives r.round.now r.round.steps p s)
      ∙ advance_gives r.round.came_to (head.played (played r.round.now r.round.steps p).core.head) (after dues s)

  pub given_round : (hs : Handed) → datagrams hs ≡ given_by (polls r.round.now r.polls) advanced → datagrams hs ≡ given_by (round_calls r p) s
  given_round hs gives =
      gives
      ∙ ap (given_by (polls r.round.now r.polls)) advanced_is
      ∙ ap (λ (xs : List (List ℕ)). xs ++ given_by (polls r.round.now r.polls) (after before s)) (sym before_gives)
      ∙ sym (given_both (polls r.round.now r.polls) before s)

-- an end that made all its rounds
pub end_made : (es : List EndRound) (s : Played) → AreEndRounds es s → AllOwe es s → length es ≡ 1048576 → IsEnd es s
end_made [] s are owe all = absurd (omega (arith, all))
end_made (e ∷ es) s are owe all = (are, owe.2, omega (arith, all), λ _. all)
