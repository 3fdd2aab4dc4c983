-- The rounds of a recording that is played as a source. Lists of rounds and of calls have the latest first.
use Rattle.std.specs.Prelude.{◌≡◌, ◌<◌, ◌≤◌, ◌^◌, ℕ, ⊤, min, true, List, [], ◌∷◌, ◌++◌, map, Option, None, Some, is_some}
use Rattle.sacn_replay.specs.declared.head.Playhead.{Playhead}
use Rattle.sacn_replay.specs.declared.step.Step.{Step}
use Rattle.sacn_replay.specs.declared.run.Next.{Next}
use Rattle.sacn_replay.specs.declared.run.Next.TheVariants.{Round as NextRound, Wait as NextWait, Nothing}
use Rattle.sacn_replay.specs.Heads.{last_moment, due_at}
use Rattle.sacn_replay.specs.Heads as head
use Rattle.sacn_replay.specs.Talks.{Talk, Looked}
use Rattle.sacn_replay.specs.Runs.{Player, Round, IsRound, after_round, after_rounds, asked_for, closing, next_of, played}
use Rattle.sacn_source.specs.Source.{due, at}
use Rattle.sacn_played_source.specs.declared.played_universe.PlayedUniverse.{PlayedUniverse}
use Rattle.sacn_played_source.specs.Played.{Played}
use Rattle.sacn_played_source.specs.Universes.{NoneLostBefore, OneLostAt}
use Rattle.sacn_played_source.specs.Calls.{Call, Advance}
use Rattle.sacn_desk.specs.declared.limits.TheConstants.{MAX_POLLS}
use Rattle.sacn_played_run.specs.Calls.{after, polls}
use Rattle.sacn_played_run.specs.Taking.{due_calls}

-- a player's round, how often the source was polled in it, when the source wakes after it, and which moment loses a source next
pub record SourceRound : Type 0 where
  pub round : Round
  pub polls : ℕ
  pub wakes : ℕ
  pub loss : Option ℕ

abbrev pub bare : SourceRound → Round
bare r = r.round

-- the recording is at a moment, unless records that are due by then are left to take
abbrev pub advance_calls : Option Step → ℕ → List Call
advance_calls None moment = []
advance_calls (Some step) moment = Advance moment ∷ []

-- a round takes what is due, advances to the moment that is played once all of it is taken, and polls
abbrev pub round_calls : SourceRound → Player → List Call
round_calls r p =
    polls r.round.now r.polls
    ++ (advance_calls r.round.came_to (head.played (played r.round.now r.round.steps p).core.head) ++ due_calls r.round.now r.round.steps p)

abbrev pub run_calls : Player → List SourceRound → List Call
run_calls first [] = []
run_calls first (r ∷ rs) = round_calls r (after_rounds first (map bare rs)) ++ run_calls first rs

-- ---- the wait

-- the first reading at which a datagram is due
abbrev pub Sleeps : ℕ → Played → Type 0
Sleeps wakes s = ((t : ℕ) → t < wakes → due (at t s.source) ≡ None) × (wakes < last_moment → is_some (due (at wakes s.source)) ≡ true)

-- the first moment of the recording that loses a source, if one does
abbrev pub IsNextLoss : Option ℕ → List PlayedUniverse → Type 0
IsNextLoss None os = NoneLostBefore os (2 ^ 64)
IsNextLoss (Some moment) os = NoneLostBefore os moment × OneLostAt os moment

abbrev pub or_never : Option ℕ → ℕ
or_never None = last_moment
or_never (Some t) = t

-- the reading at which it is played
abbrev pub loss_reading : Option ℕ → Playhead → ℕ
loss_reading None h = last_moment
loss_reading (Some moment) h = or_never (due_at moment h)

-- a wait ends where something else is due before
abbrev pub sooner : ℕ → Next → Next
sooner wake NextRound = NextRound
sooner wake (NextWait until) = NextWait (min until wake)
sooner wake Nothing = Nothing

abbrev pub next_after : SourceRound → Player → Next
next_after r p = sooner (min r.wakes (loss_reading r.loss (after_round r.round p).core.head)) (next_of r.round.came_to (is_some r.round.order))

-- ---- a round

-- after it nothing is due at its reading, unless it polled the most times
abbrev pub IsSourceRound : SourceRound → Player → Played → Type 0
IsSourceRound r p s =
    IsRound r.round p × (0 < r.polls) × (r.polls ≤ MAX_POLLS) × (r.polls < MAX_POLLS → due (after (round_calls r p) s).source ≡ None)
    × Sleeps r.wakes (after (round_calls r p) s) × IsNextLoss r.loss (after (round_calls r p) s).universes

abbrev pub source_talk : SourceRound → Player → List Talk
source_talk r p =
    asked_for r.round.now r.round.came_to r.round.order ++ Looked (after_round r.round p).core ∷ closing (next_after r p) r.round.ends

-- ---- a run

abbrev pub AreSourceRounds : Player → Played → List SourceRound → Type 0
AreSourceRounds first s [] = ⊤
AreSourceRounds first s (r ∷ rs) = IsSourceRound r (after_rounds first (map bare rs)) (after (run_calls first rs) s) × AreSourceRounds first s rs

abbrev pub run_talk : Player → List SourceRound → List Talk
run_talk first [] = []
run_talk first (r ∷ rs) = run_talk first rs ++ source_talk r (after_rounds first (map bare rs))

abbrev pub readings : List SourceRound → List ℕ
readings [] = []
readings (r ∷ rs) = readings rs ++ r.round.now ∷ []
