-- When a line has to be looked at again: no frame is made before.
use Rattle.std.specs.Prelude.{◌≡◌, ℕ, ◌+◌, ◌<◌, ◌≤◌, min, Bool, true, false, ◌&&◌, ◌==◌, if◌then◌else◌, List, length, slice_index_or, Option, Some, None}
use Rattle.sacn_cues.specs.Playing.{is_still}
use Rattle.sacn_cues.specs.Levels as levels
use Rattle.sacn_console.specs.Lights.{Lights, frame, frame_now}
use Rattle.sacn_console.specs.declared.limits.TheConstants.{MIN_GAP, KEEP_ALIVE}
use Rattle.sacn_console.specs.declared.line.Look.{Look}
use Rattle.sacn_console.specs.declared.line.Look.TheVariants.{Due, Asleep}
use Rattle.sacn_console.specs.Lines.{line_due}
use Rattle.sacn_console.specs.Core.{Core, CoreOk}
use Rattle.sacn_console.specs.declared.line.UniverseLine.{UniverseLine}
use Rattle.sacn_console.specs.declared.line.State.{State}
use Rattle.sacn_console.specs.declared.line.State.TheVariants.{Running, Ending, Stopped}

-- the last moment that a clock can show
abbrev pub last_moment : ℕ
last_moment = levels.last_moment

-- the first moment at which so many milliseconds have passed since the latest packet
abbrev pub when_passed : ℕ → Option ℕ → ℕ
when_passed wait None = 0
when_passed wait (Some m) = min (m + wait) last_moment

-- the universe's frame stays as it is at the player's moment
abbrev pub FrameStays : Lights → ℕ → Type 0
FrameStays p u = (s : ℕ) → frame p u s ≡ frame_now p u

-- from t on, and before its wake, the line isn't due
abbrev pub IsAsleep : Lights → ℕ → ℕ → UniverseLine → Type 0
IsAsleep p t wake l = (s : ℕ) → t ≤ s → s < wake → line_due p s l ≡ false

-- while no fade runs, it is due at a wake that lies ahead
abbrev pub IsTimely : Lights → ℕ → ℕ → UniverseLine → Type 0
IsTimely p t wake l = is_still p.player ≡ true → t < wake → wake < last_moment → line_due p wake l ≡ true

abbrev pub IsWake : Lights → ℕ → ℕ → UniverseLine → Type 0
IsWake p t wake l = IsAsleep p t wake l × IsTimely p t wake l

-- the line isn't due at t, and its wake lies ahead
abbrev pub IsQuiet : Lights → ℕ → ℕ → UniverseLine → Type 0
IsQuiet p t wake l = (line_due p t l ≡ false) × (min (t + 1) last_moment ≤ wake)

-- what a look at a line finds at t: it is due, with this frame, or it is asleep until its wake
abbrev pub Finds : Lights → ℕ → UniverseLine → List ℕ → Look → Type 0
Finds p t l slots Due = (line_due p t l ≡ true) × (slots ≡ frame p l.universe t)
Finds p t l slots (Asleep wake) = IsQuiet p t wake l × IsWake p t wake l

-- the wake of a line in a state, right after its packet
abbrev pub wake_sent : Bool → Option ℕ → State → ℕ
wake_sent still last (Running None) = when_passed MIN_GAP last
wake_sent still last (Running (Some r)) = if still && r.owed == 0 then when_passed KEEP_ALIVE last else when_passed MIN_GAP last
wake_sent still last (Ending n) = when_passed MIN_GAP last
wake_sent still last Stopped = last_moment

-- the wakes of all lines, a moment that is none the later, and a place before which no line is due
pub record Waking : Type 0 where
  pub each : List ℕ
  pub least : ℕ
  pub from : ℕ

-- the place from which to look, once the line at a place was passed over
abbrev pub passed_over : ℕ → ℕ → ℕ
passed_over place from = if from == place then place + 1 else from

-- none of them is earlier
abbrev pub IsLeast : List ℕ → ℕ → Type 0
IsLeast each least = (i : ℕ) → i < length each → least ≤ slice_index_or each i 0

-- the lines before this place are quiet
abbrev pub QuietBefore : List ℕ → Lights → ℕ → List UniverseLine → ℕ → Type 0
QuietBefore each p t lines from = (i : ℕ) (d : UniverseLine) → i < from → i < length lines → IsQuiet p t (slice_index_or each i 0) (slice_index_or lines i d)

pub record WakesOk (w : Waking) (p : Lights) (t : ℕ) (lines : List UniverseLine) : Type 0 where
  pub counted : length w.each ≡ length lines
  pub woken : (i : ℕ) (d : UniverseLine) → i < length lines → IsWake p t (slice_index_or w.each i 0) (slice_index_or lines i d)
  pub quiet : QuietBefore w.each p t lines w.from

pub record Sound (w : Waking) (c : Core) : Type 0 where
  pub core : CoreOk c
  pub wakes_ok : WakesOk w c.lights c.moment c.lines

abbrev pub awake : ℕ → ℕ
awake u = 0
