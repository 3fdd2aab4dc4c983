-- The numbers of the faults.
use Rattle.std.specs.Prelude.{ℕ}
use Rattle.sacn_packets.specs.declared.root.fault.PacketFault.{PacketFault}
use Rattle.sacn_packets.specs.declared.root.fault.PacketFault.TheVariants.{TooShort, Preamble, Postamble, Identifier, Flags, Length, RootVector, FramingVector, DmpVector, AddressType, FirstAddress, Increment, ValueCount, Priority, Universe, DiscoveryVector, PageRange, TooManyUniverses}

abbrev pub fault_number : PacketFault → ℕ
fault_number TooShort = 1
fault_number Preamble = 2
fault_number Postamble = 3
fault_number Identifier = 4
fault_number Flags = 5
fault_number Length = 6
fault_number RootVector = 7
fault_number FramingVector = 8
fault_number DmpVector = 9
fault_number AddressType = 10
fault_number FirstAddress = 11
fault_number Increment = 12
fault_number ValueCount = 13
fault_number Priority = 14
fault_number Universe = 15
fault_number DiscoveryVector = 16
fault_number PageRange = 17
fault_number TooManyUniverses = 18
