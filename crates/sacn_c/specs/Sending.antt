-- What C is told of a console.
use Rattle.std.specs.Prelude.{ℕ, ◌^◌, ◌-◌, replicate, Option, Some, None, Result, Ok, Err, if◌then◌else◌, ◌==◌}
use Rattle.sacn_console.specs.ConsoleFaults.{console_fault_number}
use Rattle.sacn_console.specs.declared.command.ConsoleFault.{ConsoleFault}
use Rattle.sacn_console.specs.declared.command.Command.{Command}
use Rattle.sacn_console.specs.declared.command.Command.TheVariants.{Go, GoTo, SetLevel, Master, EndUniverse, StartUniverse}
use Rattle.sacn_console.specs.declared.line.UniverseLine.{UniverseLine}
use Rattle.sacn_console.specs.declared.line.State.{State}
use Rattle.sacn_console.specs.declared.line.State.TheVariants.{Running, Ending, Stopped}
use Rattle.sacn_console.specs.Core.{size}
use Rattle.sacn_console.specs.Lines.{Datagram}
use Rattle.sacn_c.specs.declared.state.LineFields.{LineFields}
use Rattle.sacn_c.specs.declared.status.TheConstants.{DONE}

abbrev pub answer_status : Result (Unit {0}) ConsoleFault → ℕ
answer_status (Ok done) = DONE
answer_status (Err fault) = console_fault_number fault

-- how many octets are due, 0 where nothing is
abbrev pub due_size : Option Datagram → ℕ
due_size None = 0
due_size (Some datagram) = size datagram

abbrev pub command_of : ℕ → ℕ → ℕ → Option Command
command_of kind number level =
    if kind == 1 then Some Go else if kind == 2 then Some (GoTo number) else if kind == 3 then Some (SetLevel number level)
    else if kind == 4 then Some (Master level) else if kind == 5 then Some (EndUniverse number) else if kind == 6 then Some (StartUniverse number) else None

abbrev pub state_number : State → ℕ
state_number (Running run) = 1
state_number (Ending owed) = 2
state_number Stopped = 3

-- the moment of the latest packet, and the greatest that there is where there was none
abbrev pub latest_told : Option ℕ → ℕ
latest_told None = 2 ^ 64 - 1
latest_told (Some moment) = moment

-- what C is told of a universe
abbrev pub line_told : UniverseLine → LineFields
line_told l = record { latest = latest_told l.last; universe = l.universe; state = state_number l.state; number = l.sequence_number; unused = replicate 4 0 }
