-- The faults of setups: their numbers, and those that every file has.
use Rattle.std.specs.Prelude.{ℕ}
use Rattle.sacn_files.specs.declared.faults.FileFault.{FileFault}
use Rattle.sacn_files.specs.declared.faults.FileFault.TheVariants as file
use Rattle.sacn_node.specs.declared.setup.fault.SetupFault.{SetupFault}
use Rattle.sacn_node.specs.declared.setup.fault.SetupFault.TheVariants.{OutOfMemory, Toml, MissingKey, UnknownKey, KeyValue, Version, PortTaken, Limit, RangeEnd, Overlap}

abbrev pub setup_fault_number : SetupFault → ℕ
setup_fault_number OutOfMemory = 1
setup_fault_number Toml = 2
setup_fault_number MissingKey = 3
setup_fault_number UnknownKey = 4
setup_fault_number KeyValue = 5
setup_fault_number Version = 6
setup_fault_number PortTaken = 7
setup_fault_number Limit = 8
setup_fault_number RangeEnd = 9
setup_fault_number Overlap = 10

abbrev pub setup_fault_of : FileFault → SetupFault
setup_fault_of file.OutOfMemory = OutOfMemory
setup_fault_of file.Toml = Toml
setup_fault_of file.MissingKey = MissingKey
setup_fault_of file.UnknownKey = UnknownKey
setup_fault_of file.KeyValue = KeyValue
setup_fault_of file.Version = Version
