-- The numbers of the faults.
use Rattle.std.specs.Prelude.{ℕ}
use Rattle.sacn_source.specs.declared.fault.SourceFault.{SourceFault}
use Rattle.sacn_source.specs.declared.fault.SourceFault.TheVariants.{OutOfMemory, BadUniverse, NoUniverse, Running, Ending, Stopped, Full, TooMany, BadPriority}

abbrev pub source_fault_number : SourceFault → ℕ
source_fault_number OutOfMemory = 1
source_fault_number BadUniverse = 2
source_fault_number NoUniverse = 3
source_fault_number Running = 4
source_fault_number Ending = 5
source_fault_number Stopped = 6
source_fault_number Full = 7
source_fault_number TooMany = 8
source_fault_number BadPriority = 9
