-- The faults of a world's file: their numbers, and those that every file has.
use Rattle.std.specs.Prelude.{ℕ}
use Rattle.sacn_files.specs.declared.faults.FileFault.{FileFault}
use Rattle.sacn_files.specs.declared.faults.FileFault.TheVariants as file
use Rattle.sacn_schedule.specs.declared.world_file.fault.WorldTextFault.{WorldTextFault}
use Rattle.sacn_schedule.specs.declared.world_file.fault.WorldTextFault.TheVariants.{OutOfMemory, Toml, MissingKey, UnknownKey, KeyValue, Version, Console, Node, SameCid}

abbrev pub world_fault_number : WorldTextFault → ℕ
world_fault_number OutOfMemory = 1
world_fault_number Toml = 2
world_fault_number MissingKey = 3
world_fault_number UnknownKey = 4
world_fault_number KeyValue = 5
world_fault_number Version = 6
world_fault_number (Console i fault) = 7
world_fault_number (Node i fault) = 8
world_fault_number SameCid = 9

abbrev pub world_fault_of : FileFault → WorldTextFault
world_fault_of file.OutOfMemory = OutOfMemory
world_fault_of file.Toml = Toml
world_fault_of file.MissingKey = MissingKey
world_fault_of file.UnknownKey = UnknownKey
world_fault_of file.KeyValue = KeyValue
world_fault_of file.Version = Version
