-- The number of a table's fault.
use Rattle.std.specs.Prelude.{ℕ}
use Rattle.sacn_sources.specs.declared.fault.TableFault.{TableFault}
use Rattle.sacn_sources.specs.declared.fault.TableFault.TheVariants.{OutOfMemory}

abbrev pub table_fault_number : TableFault → ℕ
table_fault_number OutOfMemory = 1
