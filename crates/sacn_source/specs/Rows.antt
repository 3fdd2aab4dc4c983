-- One universe of a source: when it is due, and what a call or its packet makes of it.
use Rattle.std.specs.Prelude.{ℕ, ◌-◌, Bool, ◌&&◌, ◌++◌, ◌==◌, if◌then◌else◌, List, length, replicate, None, Result, Ok, Err}
use Rattle.sacn_console.specs.Lines.{has_passed, asks, line_sent, line_in}
use Rattle.sacn_console.specs.declared.limits.TheConstants.{MIN_GAP, TERMINATIONS}
use Rattle.sacn_console.specs.declared.line.State.{State}
use Rattle.sacn_console.specs.declared.line.State.TheVariants.{Running, Ending, Stopped}
use Rattle.sacn_source.specs.declared.source_universe.SourceUniverse.{SourceUniverse}
use Rattle.sacn_source.specs.declared.fault.SourceFault.{SourceFault}
use Rattle.sacn_source.specs.declared.fault.SourceFault.TheVariants as fault

-- its packet is due at t
unfoldable pub row_due : ℕ → SourceUniverse → Bool
row_due t r = has_passed MIN_GAP t r.line.last && asks t r.line.last r.levels r.line.state

-- after its packet at t
unfoldable pub row_sent : ℕ → SourceUniverse → SourceUniverse
row_sent t r = record { line = line_sent t r.levels r.line; levels = r.levels; priority = r.priority }

abbrev pub row_in : State → SourceUniverse → SourceUniverse
row_in s r = record { line = line_in s r.line; levels = r.levels; priority = r.priority }

-- what runs is ended
abbrev pub state_ended : State → State
state_ended (Running r) = Ending TERMINATIONS
state_ended (Ending n) = Ending n
state_ended Stopped = Stopped

abbrev pub row_ended : SourceUniverse → SourceUniverse
row_ended r = row_in (state_ended r.line.state) r

-- the levels that are handed in are those of the first slots, all others are 0
unfoldable pub slots_of : List ℕ → List ℕ
slots_of levels = levels ++ replicate (512 - length levels) 0

abbrev pub row_showing : List ℕ → SourceUniverse → SourceUniverse
row_showing slots r = record { line = r.line; levels = slots; priority = r.priority }

-- what runs is sent as if it began
abbrev pub state_anew : State → State
state_anew (Running r) = Running None
state_anew (Ending n) = Ending n
state_anew Stopped = Stopped

-- another priority is sent at once
unfoldable pub row_prior : ℕ → SourceUniverse → SourceUniverse
row_prior p r = if r.priority == p then r else record { line = line_in (state_anew r.line.state) r.line; levels = r.levels; priority = p }

-- the levels of a universe that begins
unfoldable pub dark : List ℕ
dark = replicate 512 0

-- a universe that begins
abbrev pub new_row : ℕ → ℕ → ℕ → SourceUniverse
new_row first priority u = record {
  line = record { universe = u; state = Running None; sequence_number = first; last = None };
  levels = dark;
  priority = priority;
}

abbrev pub end_answer : State → Result (Unit {0}) SourceFault
end_answer (Running r) = Ok tt
end_answer (Ending n) = Err fault.Ending
end_answer Stopped = Err fault.Stopped

abbrev pub add_answer : State → Result (Unit {0}) SourceFault
add_answer (Running r) = Err fault.Running
add_answer (Ending n) = Err fault.Ending
add_answer Stopped = Ok tt
