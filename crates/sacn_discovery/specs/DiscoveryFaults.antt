-- The numbers of a collector's faults.
use Rattle.std.specs.Prelude.{ℕ}
use Rattle.sacn_discovery.specs.declared.fault.DiscoveryFault.{DiscoveryFault}
use Rattle.sacn_discovery.specs.declared.fault.DiscoveryFault.TheVariants.{OutOfMemory}

abbrev pub discovery_fault_number : DiscoveryFault → ℕ
discovery_fault_number OutOfMemory = 1
