-- The numbers of the faults.
use Rattle.std.specs.Prelude.{ℕ}
use Rattle.sacn_patch.specs.declared.fault.PatchFault.{PatchFault}
use Rattle.sacn_patch.specs.declared.fault.PatchFault.TheVariants.{OutOfMemory, ChannelRange, SlotRange, SlotTaken}

abbrev pub fault_number : PatchFault → ℕ
fault_number OutOfMemory = 1
fault_number ChannelRange = 2
fault_number SlotRange = 3
fault_number SlotTaken = 4
