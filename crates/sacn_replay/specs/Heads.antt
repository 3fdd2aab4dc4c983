-- Which moment of a recording is played at which reading of the clock. All moments are in milliseconds.
use Rattle.std.specs.Prelude.{ℕ, ◌+◌, ◌-◌, ◌*◌, ◌/◌, ◌%◌, ◌^◌, nat_lt, nat_le, max, min, ◌||◌, true, false, Option, None, Some, if◌then◌else◌}
use Rattle.sacn_sources.specs.declared.limits.TheConstants.{NETWORK_DATA_LOSS}
use Rattle.sacn_replay.specs.declared.head.Playhead.{Playhead}
use Rattle.sacn_replay.specs.declared.step.Step.{Step}
use Rattle.sacn_replay.specs.declared.step.Step.TheVariants.{Wait, Send, Skip, Rest}

-- the last moment of all
abbrev pub last_moment : ℕ
last_moment = 2 ^ 64 - 1

-- a reading of the clock: one that goes back counts as the greatest so far
abbrev pub ticked : ℕ → Playhead → Playhead
ticked now h = record h { clock = max h.clock now }

-- the moment of the recording that is played
abbrev pub played : Playhead → ℕ
played h = if h.is_paused then h.from else min (h.from + (h.clock - h.began) * h.speed / 1000) last_moment

-- played from a moment on, at a reading
abbrev pub begun_head : ℕ → ℕ → ℕ → Playhead
begun_head now from speed = record { clock = now; began = now; from = from; speed = speed; is_paused = false }

-- a quotient, rounded up
unfoldable pub rounded_up : ℕ → ℕ → ℕ
rounded_up a b = a / b + min 1 (a % b)

-- when a moment of the recording is due: the first reading at which it isn't early
abbrev pub due : ℕ → Playhead → ℕ
due moment h = h.began + rounded_up ((moment - h.from) * 1000) h.speed

-- the same, where it is a reading that the clock can have
abbrev pub due_at : ℕ → Playhead → Option ℕ
due_at moment h = if h.is_paused || nat_lt last_moment (due moment h) then None else Some (due moment h)

-- what is to be done at this reading with a record that is due at some time
abbrev pub judged_by : ℕ → ℕ → Step
judged_by at now =
    if nat_lt now at then Wait (min at last_moment) else (if nat_le (now - at) NETWORK_DATA_LOSS then Send else Skip)

-- what is to be done with a record of this moment
abbrev pub judged : ℕ → Playhead → Step
judged moment h = if h.is_paused then Rest else judged_by (due moment h) h.clock

-- from this reading on the recording is played from a moment on
abbrev pub played_from : ℕ → Playhead → Playhead
played_from moment h = record h { began = h.clock; from = moment }

abbrev pub paused : Playhead → Playhead
paused h = record h { began = h.clock; from = played h; is_paused = true }

abbrev pub going : Playhead → Playhead
going h = record h { began = h.clock; from = played h; is_paused = false }

abbrev pub at_speed : ℕ → Playhead → Playhead
at_speed speed h = record h { began = h.clock; from = played h; speed = speed }
