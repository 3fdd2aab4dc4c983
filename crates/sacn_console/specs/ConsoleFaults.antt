-- The numbers of the faults.
use Rattle.std.specs.Prelude.{ℕ}
use Rattle.sacn_console.specs.declared.command.ConsoleFault.{ConsoleFault}
use Rattle.sacn_console.specs.declared.command.ConsoleFault.TheVariants.{NoCue, ChannelRange, NoUniverse, Ending, Running, Stopped}
use Rattle.sacn_console.specs.declared.show.fault.ShowFault.{ShowFault}
use Rattle.sacn_console.specs.declared.show.fault.ShowFault.TheVariants as show

abbrev pub console_fault_number : ConsoleFault → ℕ
console_fault_number NoCue = 1
console_fault_number ChannelRange = 2
console_fault_number NoUniverse = 3
console_fault_number Ending = 4
console_fault_number Running = 5
console_fault_number Stopped = 6

abbrev pub show_fault_number : ShowFault → ℕ
show_fault_number show.OutOfMemory = 1
show_fault_number show.Toml = 2
show_fault_number show.MissingKey = 3
show_fault_number show.UnknownKey = 4
show_fault_number show.KeyValue = 5
show_fault_number show.Version = 6
show_fault_number show.Cue = 7
show_fault_number show.Patch = 8
