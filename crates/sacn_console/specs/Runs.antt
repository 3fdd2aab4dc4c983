-- What a core keeps of a list of deeds, and what it answers to a list of calls.
use Rattle.std.specs.Prelude.{◌≡◌, ℕ, ◌+◌, ◌-◌, ◌%◌, length, max, Bool, true, false, nat_lt, if◌then◌else◌, List, [], ◌∷◌, map, Option, Some, None, Result, Ok, Err}
use Rattle.sacn_cues.specs.History.{player_after}
use Rattle.sacn_console.specs.Lights.{Lights, lights_at}
use Rattle.sacn_console.specs.declared.limits.TheConstants.{REPEATS, TERMINATIONS}
use Rattle.sacn_console.specs.Lines.{Datagram, Deed, Accepted, Gave}
use Rattle.sacn_console.specs.Due.{Life, Sent, packets, is_ended, packets_since, terminations, follow_new, latest, number_by, player_calls, cycle_by, list_by, due_by_list, answer_by_list}
use Rattle.sacn_console.specs.declared.command.Command.{Command}
use Rattle.sacn_console.specs.declared.command.ConsoleFault.{ConsoleFault}
use Rattle.sacn_console.specs.Core.{Core, after_poll, after_command, due, answer, at}
use Rattle.sacn_console.specs.declared.line.UniverseLine.{UniverseLine}
use Rattle.sacn_console.specs.declared.line.State.{State}
use Rattle.sacn_console.specs.declared.line.State.TheVariants.{Running, Ending, Stopped}

-- ---- what a core keeps of a list of deeds

abbrev pub state_by : Bool → List Sent → State
state_by true ss = if nat_lt (terminations ss) TERMINATIONS then Ending (TERMINATIONS - terminations ss) else Stopped
state_by false [] = Running None
state_by false (a ∷ ss) = Running (Some (record { frame = a.data_sent.slots; owed = REPEATS - follow_new (a ∷ ss) }))

abbrev pub line_by : ℕ → List Deed → ℕ → UniverseLine
line_by first ds u = record {
  universe = u;
  state = state_by (is_ended u ds) (packets_since u ds);
  sequence_number = number_by first u ds;
  last = latest (packets u ds);
}

-- the lights at t: the steps of the player over its commands
unfoldable pub lights_by : Life → ℕ → List Deed → Lights
lights_by life t ds = lights_at t (record { patch = life.patch; player = player_after life.cues (player_calls ds) })

unfoldable pub core_by : Life → ℕ → List Deed → Core
core_by life t ds = record {
  sender = life.sender;
  lines = map (line_by life.first ds) life.universes;
  cycle = cycle_by ds;
  listed = list_by life.universes ds;
  lights = lights_by life t ds;
  moment = t;
}

-- ---- lists of calls

pub data Call : Type 0 where
  Order : ℕ → Command → Call
  Poll : ℕ → Call

pub data Answer : Type 0 where
  Ordered : Result (Unit {0}) ConsoleFault → Answer
  Polled : Option Datagram → Answer

-- by the core's steps
abbrev pub answers : Core → List Call → List Answer
answers c [] = []
answers c (Order now k ∷ calls) = Ordered (answer k (at now c)) ∷ answers (after_command now k c) calls
answers c (Poll now ∷ calls) = Polled (due (at now c)) ∷ answers (after_poll now c) calls

abbrev pub with_order : ℕ → Command → Result (Unit {0}) ConsoleFault → List Deed → List Deed
with_order t k (Ok x) ds = Accepted t k ∷ ds
with_order t k (Err e) ds = ds

abbrev pub with_datagram : ℕ → Option Datagram → List Deed → List Deed
with_datagram t None ds = ds
with_datagram t (Some d) ds = Gave t d ∷ ds

-- by the list of what was done so far, at the greatest moment handed in
abbrev pub answers_by_list : Life → ℕ → List Deed → List Call → List Answer
answers_by_list life t ds [] = []
answers_by_list life t ds (Order now k ∷ calls) =
    Ordered (answer_by_list life k ds) ∷ answers_by_list life (max t now) (with_order (max t now) k (answer_by_list life k ds) ds) calls
answers_by_list life t ds (Poll now ∷ calls) =
    Polled (due_by_list life (max t now) ds) ∷ answers_by_list life (max t now) (with_datagram (max t now) (due_by_list life (max t now) ds) ds) calls

-- For any list of calls from the start of a life, the core's steps give what the list gives.
abbrev pub StepsAreTheList : Type 0
StepsAreTheList = (life : Life) (calls : List Call) → answers (core_by life 0 []) calls ≡ answers_by_list life 0 [] calls

-- ---- numbers

-- what was done after a list of calls
abbrev pub deeds_after : Life → ℕ → List Deed → List Call → List Deed
deeds_after life t ds [] = ds
deeds_after life t ds (Order now k ∷ calls) = deeds_after life (max t now) (with_order (max t now) k (answer_by_list life k ds) ds) calls
deeds_after life t ds (Poll now ∷ calls) = deeds_after life (max t now) (with_datagram (max t now) (due_by_list life (max t now) ds) ds) calls

-- latest first, each packet has the first number and how many came before it, modulo 256
abbrev pub IsNumbered : ℕ → List Sent → Type 0
IsNumbered first [] = Unit {0}
IsNumbered first (s ∷ ss) = (s.data_sent.number ≡ (first + length ss) % 256) × IsNumbered first ss

-- The packets of a life on a universe are numbered from the first number on, each by one more, modulo 256.
abbrev pub PacketsAreNumbered : Type 0
PacketsAreNumbered = (life : Life) (calls : List Call) (u : ℕ) → IsNumbered life.first (packets u (deeds_after life 0 [] calls))
