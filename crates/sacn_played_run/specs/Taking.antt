-- What is taken of a recording at a reading of the clock.
use Rattle.std.specs.Prelude.{ℕ, zero, suc, List, [], ◌∷◌, ◌++◌, Option, None, Some}
use Rattle.sacn_replay.specs.declared.step.Step.{Step}
use Rattle.sacn_replay.specs.declared.step.Step.TheVariants.{Wait, Send, Skip, Pass, Again, End, Rest}
use Rattle.sacn_replay.specs.Reels.{next_moment, next_octets}
use Rattle.sacn_replay.specs.Runs.{Player, played, step_taken}
use Rattle.sacn_played_source.specs.Calls.{Call, Hear, Rewind}

-- a record that a step sends is taken at its moment; where the first record is next, the recording begins anew
abbrev pub step_calls : Step → ℕ → List ℕ → List Call
step_calls Send moment octets = Hear moment octets ∷ []
step_calls Again moment octets = Rewind ∷ []
step_calls Skip moment octets = []
step_calls Pass moment octets = []
step_calls (Wait until) moment octets = []
step_calls End moment octets = []
step_calls Rest moment octets = []

abbrev pub moment_or_0 : Option ℕ → ℕ
moment_or_0 None = 0
moment_or_0 (Some moment) = moment

abbrev pub calls_at : ℕ → Player → List Call
calls_at now p = step_calls (step_taken now p) (moment_or_0 (next_moment p.reel.left)) (next_octets p.reel.left)

-- what so many steps at a reading call
abbrev pub due_calls : ℕ → ℕ → Player → List Call
due_calls now zero p = []
due_calls now (suc n) p = calls_at now (played now n p) ++ due_calls now n p
