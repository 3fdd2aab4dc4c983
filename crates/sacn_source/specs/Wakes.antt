-- When a universe of a source is due next.
use Rattle.std.specs.Prelude.{◌≡◌, ℕ, ◌<◌, ◌≤◌, true, false, not, ◌||◌, nat_lt, if◌then◌else◌, List, length, slice_index_or, Option, Some, None}
use Rattle.sacn_console.specs.Lines.{same}
use Rattle.sacn_console.specs.Wakes.{when_passed, last_moment}
use Rattle.sacn_console.specs.declared.limits.TheConstants.{MIN_GAP, KEEP_ALIVE}
use Rattle.sacn_console.specs.declared.line.State.{State}
use Rattle.sacn_console.specs.declared.line.State.TheVariants.{Running, Ending, Stopped}
use Rattle.sacn_source.specs.declared.source_universe.SourceUniverse.{SourceUniverse}
use Rattle.sacn_source.specs.declared.looks.Looks.{Looks}
use Rattle.sacn_source.specs.Rows.{row_due}
use Rattle.sacn_source.specs.Source.{Source}

-- the first moment at which a packet of these levels is due in a state; where there is none, the last that a clock can show
abbrev pub wake_by : List ℕ → Option ℕ → State → ℕ
wake_by f last (Running None) = when_passed MIN_GAP last
wake_by f last (Running (Some r)) = if nat_lt 0 r.owed || not (same r.frame f) then when_passed MIN_GAP last else when_passed KEEP_ALIVE last
wake_by f last (Ending n) = when_passed MIN_GAP last
wake_by f last Stopped = last_moment

unfoldable pub row_wake : SourceUniverse → ℕ
row_wake r = wake_by r.levels r.line.last r.line.state

-- no row is due before
abbrev pub IsFirst : List SourceUniverse → ℕ → Type 0
IsFirst rows first = (i : ℕ) (d : SourceUniverse) → i < length rows → first ≤ row_wake (slice_index_or rows i d)

-- one is due then, where a clock still shows that moment
abbrev pub IsReached : List SourceUniverse → ℕ → Type 0
IsReached rows first = first < last_moment → (i : ℕ) × (i < length rows) × ((d : SourceUniverse) → row_wake (slice_index_or rows i d) ≡ first)

-- no row before this place is due at t
abbrev pub QuietBefore : List SourceUniverse → ℕ → ℕ → Type 0
QuietBefore rows t from = (i : ℕ) (d : SourceUniverse) → i < from → i < length rows → row_due t (slice_index_or rows i d) ≡ false

-- no row is due before the least, one is then where that is exact, and none before the place at the core's moment
pub record IsLooked (l : Looks) (c : Source) : Type 0 where
  pub first : IsFirst c.table.rows l.least
  pub exact : l.is_exact ≡ true → IsReached c.table.rows l.least
  pub quiet : QuietBefore c.table.rows c.moment l.from
