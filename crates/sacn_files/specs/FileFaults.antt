-- The numbers of the faults of files and of line texts.
use Rattle.std.specs.Prelude.{ℕ}
use Rattle.sacn_files.specs.declared.faults.FileFault.{FileFault}
use Rattle.sacn_files.specs.declared.faults.FileFault.TheVariants.{OutOfMemory, Toml, MissingKey, UnknownKey, KeyValue, Version}
use Rattle.sacn_files.specs.declared.faults.TextFault.{TextFault}
use Rattle.sacn_files.specs.declared.faults.TextFault.TheVariants as line

abbrev pub file_fault_number : FileFault → ℕ
file_fault_number OutOfMemory = 1
file_fault_number Toml = 2
file_fault_number MissingKey = 3
file_fault_number UnknownKey = 4
file_fault_number KeyValue = 5
file_fault_number Version = 6

abbrev pub text_fault_number : TextFault → ℕ
text_fault_number line.OutOfMemory = 1
text_fault_number (line.UnknownWord n) = 2
text_fault_number (line.WordCount n) = 3
text_fault_number (line.Number n) = 4
text_fault_number (line.Hex n) = 5
