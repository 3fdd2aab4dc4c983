-- The end of a source that played a recording. Lists have the latest first.
use Rattle.std.specs.Prelude.{◌≡◌, ◌<◌, ◌≤◌, ℕ, ⊤, Bool, false, if◌then◌else◌, List, [], ◌∷◌, ◌++◌, length, None}
use Rattle.sacn_source.specs.Source.{due}
use Rattle.sacn_replay.specs.Talks.{Talk, Rested}
use Rattle.sacn_played_source.specs.Played.{Played, has_ended}
use Rattle.sacn_played_source.specs.Calls.{Call, EndAll}
use Rattle.sacn_desk.specs.declared.limits.TheConstants.{MAX_POLLS}
use Rattle.sacn_played_run.specs.declared.ending.TheConstants.{MAX_END_ROUNDS}
use Rattle.sacn_played_run.specs.Calls.{after, polls}
use Rattle.sacn_played_run.specs.Rounds.{Sleeps}

-- a reading, the polls at it, and when the source wakes after them
pub record EndRound : Type 0 where
  pub now : ℕ
  pub polls : ℕ
  pub wakes : ℕ

-- all is ended once, and polled from then on
abbrev pub end_calls : List EndRound → List Call
end_calls [] = EndAll ∷ []
end_calls (e ∷ es) = polls e.now e.polls ++ end_calls es

abbrev pub ended : List EndRound → Played → Played
ended es s = after (end_calls es) s

-- a rest after each round that left a terminated packet to send
abbrev pub rest_of : Bool → ℕ → List Talk
rest_of ends wakes = if ends then [] else Rested wakes ∷ []

abbrev pub end_talk : List EndRound → Played → List Talk
end_talk [] s = []
end_talk (e ∷ es) s = end_talk es s ++ rest_of (has_ended (ended (e ∷ es) s)) e.wakes

abbrev pub end_readings : List EndRound → List ℕ
end_readings [] = []
end_readings (e ∷ es) = end_readings es ++ e.now ∷ []

-- each polls until nothing is due, or the most times
abbrev pub AreEndRounds : List EndRound → Played → Type 0
AreEndRounds [] s = ⊤
AreEndRounds (e ∷ es) s =
    (0 < e.polls) × (e.polls ≤ MAX_POLLS) × (e.polls < MAX_POLLS → due (ended (e ∷ es) s).source ≡ None) × AreEndRounds es s

-- terminated packets were left to send after each, and the next round comes when one is due
abbrev pub AllOwe : List EndRound → Played → Type 0
AllOwe [] s = ⊤
AllOwe (e ∷ es) s = (has_ended (ended (e ∷ es) s) ≡ false) × Sleeps e.wakes (ended (e ∷ es) s) × AllOwe es s

-- the last is the first after which none is left, or the last that may be
abbrev pub IsEnd : List EndRound → Played → Type 0
IsEnd [] s = ⊥
IsEnd (e ∷ es) s =
    AreEndRounds (e ∷ es) s × AllOwe es s × (length (e ∷ es) ≤ MAX_END_ROUNDS) × (has_ended (ended (e ∷ es) s) ≡ false → length (e ∷ es) ≡ MAX_END_ROUNDS)
