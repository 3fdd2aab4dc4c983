-- How many datagrams there were, by what they were.
use Rattle.std.specs.Prelude.{ℕ, List, replicate, slice_index_or, slice_set}
use Rattle.sacn_packets.specs.declared.root.fault.PacketFault.{PacketFault}
use Rattle.sacn_packets.specs.declared.root.fault.TheConstants.{FAULT_NUMBERS}
use Rattle.sacn_packets.specs.PacketFaults.{fault_number}
use Rattle.sacn_monitor.specs.declared.tally.Tally.{Tally}
use Rattle.sacn_monitor.specs.Kinds.{more}

abbrev pub nothing_tallied : Tally
nothing_tallied = record { datagrams = 0; pages = 0; syncs = 0; untracked = 0; refused = replicate FAULT_NUMBERS 0 }

-- one more at the number of this fault
abbrev pub refused_more : PacketFault → Tally → Tally
refused_more fault tally = record tally { refused = slice_set tally.refused (fault_number fault) (more 1 (slice_index_or tally.refused (fault_number fault) 0)) }
