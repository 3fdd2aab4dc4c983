-- The numbers of the faults.
use Rattle.std.specs.Prelude.{ℕ}
use Rattle.sacn_world.specs.declared.fault.WorldFault.{WorldFault}
use Rattle.sacn_world.specs.declared.fault.WorldFault.TheVariants as world
use Rattle.sacn_world.specs.declared.fault.NewFault.{NewFault}
use Rattle.sacn_world.specs.declared.fault.NewFault.TheVariants as new

abbrev pub world_fault_number : WorldFault → ℕ
world_fault_number world.OutOfMemory = 1
world_fault_number world.NoConsole = 2
world_fault_number world.NoNode = 3
world_fault_number world.NoDatagram = 4
world_fault_number world.TooFarBehind = 5
world_fault_number world.OldLife = 6
world_fault_number world.NoiseIsPacket = 7

abbrev pub new_fault_number : NewFault → ℕ
new_fault_number new.OutOfMemory = 1
new_fault_number new.SameCid = 2
