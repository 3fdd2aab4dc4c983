-- The numbers of the faults of `decode_text` and of `sim_text`.
use Rattle.std.specs.Prelude.{ℕ}
use Rattle.sacn_text.specs.declared.fault.DecodeFault.{DecodeFault}
use Rattle.sacn_text.specs.declared.fault.DecodeFault.TheVariants.{OutOfMemory, Refused, WriteFailed}
use Rattle.sacn_text.specs.declared.fault.SimFault.{SimFault}
use Rattle.sacn_text.specs.declared.fault.SimFault.TheVariants as sim

abbrev pub decode_fault_number : DecodeFault → ℕ
decode_fault_number OutOfMemory = 1
decode_fault_number (Refused i fault) = 2
decode_fault_number WriteFailed = 3

abbrev pub sim_fault_number : SimFault → ℕ
sim_fault_number sim.OutOfMemory = 1
sim_fault_number (sim.World fault) = 2
sim_fault_number (sim.Schedule fault) = 3
sim_fault_number (sim.Event i fault) = 4
sim_fault_number sim.WriteFailed = 5
