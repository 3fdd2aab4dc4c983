-- One universe of a console: when it is due, and what a deed makes of it.
use Rattle.std.specs.Prelude.{ℕ, ◌+◌, ◌-◌, ◌%◌, Bool, true, false, not, ◌&&◌, ◌||◌, ◌==◌, nat_lt, nat_le, if◌then◌else◌, List, Option, Some, None}
use Rattle.std.specs.Cmp.Lexicographic.{pointwise}
use Rattle.std.specs.Bool.{nat_eq}
use Rattle.sacn_packets.specs.Data.{Data}
use Rattle.sacn_console.specs.Lights.{Lights, frame}
use Rattle.sacn_console.specs.declared.limits.TheConstants.{MIN_GAP, KEEP_ALIVE, REPEATS, TERMINATIONS}
use Rattle.sacn_console.specs.declared.command.Command.{Command}
use Rattle.sacn_console.specs.declared.command.Command.TheVariants.{EndUniverse, StartUniverse}
use Rattle.sacn_console.specs.declared.line.Run.{Run}
use Rattle.sacn_console.specs.declared.line.UniverseLine.{UniverseLine}
use Rattle.sacn_console.specs.declared.line.State.{State}
use Rattle.sacn_console.specs.declared.line.State.TheVariants.{Running, Ending, Stopped}

-- a page of a discovery cycle: the cycle's list, and which page of it
pub record Page : Type 0 where
  pub list : List ℕ
  pub page : ℕ

pub data Datagram : Type 0 where
  Packet : Data → Datagram
  Paged : Page → Datagram

-- what a console did: it accepted a command, or it gave a datagram, each at its moment in use
pub data Deed : Type 0 where
  Accepted : ℕ → Command → Deed
  Gave : ℕ → Datagram → Deed

unfoldable pub same : List ℕ → List ℕ → Bool
same a b = pointwise nat_eq a b

-- at t, so many milliseconds have passed since the latest packet, or there was none
abbrev pub has_passed : ℕ → ℕ → Option ℕ → Bool
has_passed wait t None = true
has_passed wait t (Some m) = nat_le wait (t - m)

-- where the least gap has passed, whether a state asks for a packet at t, of these slots
abbrev pub asks : ℕ → Option ℕ → List ℕ → State → Bool
asks t last f (Running None) = true
asks t last f (Running (Some r)) = nat_lt 0 r.owed || (has_passed KEEP_ALIVE t last || not (same r.frame f))
asks t last f (Ending n) = true
asks t last f Stopped = false

-- the universe is due at t
unfoldable pub line_due : Lights → ℕ → UniverseLine → Bool
line_due p t l = has_passed MIN_GAP t l.last && asks t l.last (frame p l.universe t) l.state

abbrev pub fresh_run : List ℕ → Run
fresh_run f = record { frame = f; owed = REPEATS }

-- the state after a packet with these slots
unfoldable pub state_sent : List ℕ → State → State
state_sent f (Running None) = Running (Some (fresh_run f))
state_sent f (Running (Some r)) =
    if same r.frame f then Running (Some (record { frame = f; owed = r.owed - 1 })) else Running (Some (fresh_run f))
state_sent f (Ending n) = if nat_lt n 2 then Stopped else Ending (n - 1)
state_sent f Stopped = Stopped

unfoldable pub line_sent : ℕ → List ℕ → UniverseLine → UniverseLine
line_sent t f l = record { universe = l.universe; state = state_sent f l.state; sequence_number = (l.sequence_number + 1) % 256; last = Some t }

abbrev pub line_in : State → UniverseLine → UniverseLine
line_in s l = record { universe = l.universe; state = s; sequence_number = l.sequence_number; last = l.last }

abbrev pub line_told : Command → UniverseLine → UniverseLine
line_told (EndUniverse u) l = if l.universe == u then line_in (Ending TERMINATIONS) l else l
line_told (StartUniverse u) l = if l.universe == u then line_in (Running None) l else l
line_told _ l = l

-- a universe after a deed
unfoldable pub line_after : Deed → UniverseLine → UniverseLine
line_after (Accepted t k) l = line_told k l
line_after (Gave t (Packet d)) l = if l.universe == d.universe then line_sent t d.slots l else l
line_after (Gave t (Paged p)) l = l

abbrev pub is_ending : State → Bool
is_ending (Running r) = false
is_ending (Ending n) = true
is_ending Stopped = false

abbrev pub is_stopped : State → Bool
is_stopped (Running r) = false
is_stopped (Ending n) = false
is_stopped Stopped = true
