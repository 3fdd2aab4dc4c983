-- Why octets are no packet: what is said of each fault.
use Rattle.std.specs.Prelude.{ℕ, List, codes}
use Rattle.sacn_packets.specs.declared.root.fault.PacketFault.{PacketFault}
use Rattle.sacn_packets.specs.declared.root.fault.PacketFault.TheVariants.{TooShort, Preamble, Postamble, Identifier, Flags, Length, RootVector, FramingVector, DmpVector, AddressType, FirstAddress, Increment, ValueCount, Priority, Universe, DiscoveryVector, PageRange, TooManyUniverses}

abbrev pub fault_words : PacketFault → List ℕ
fault_words TooShort = codes "the octets end too early"
fault_words Preamble = codes "the preamble size is wrong"
fault_words Postamble = codes "the post-amble size is wrong"
fault_words Identifier = codes "the packet identifier is wrong"
fault_words Flags = codes "the flags of a length field are wrong"
fault_words Length = codes "a length is wrong"
fault_words RootVector = codes "the root vector is unknown"
fault_words FramingVector = codes "the framing vector is unknown"
fault_words DmpVector = codes "the DMP vector is wrong"
fault_words AddressType = codes "the address and data type is wrong"
fault_words FirstAddress = codes "the first property address is wrong"
fault_words Increment = codes "the address increment is wrong"
fault_words ValueCount = codes "the property value count is wrong"
fault_words Priority = codes "the priority is above 200"
fault_words Universe = codes "the universe is out of range"
fault_words DiscoveryVector = codes "the discovery vector is wrong"
fault_words PageRange = codes "the page is above the last page"
fault_words TooManyUniverses = codes "the page has too many universes"

-- and its name
abbrev pub fault_name : PacketFault → List ℕ
fault_name TooShort = codes "TooShort"
fault_name Preamble = codes "Preamble"
fault_name Postamble = codes "Postamble"
fault_name Identifier = codes "Identifier"
fault_name Flags = codes "Flags"
fault_name Length = codes "Length"
fault_name RootVector = codes "RootVector"
fault_name FramingVector = codes "FramingVector"
fault_name DmpVector = codes "DmpVector"
fault_name AddressType = codes "AddressType"
fault_name FirstAddress = codes "FirstAddress"
fault_name Increment = codes "Increment"
fault_name ValueCount = codes "ValueCount"
fault_name Priority = codes "Priority"
fault_name Universe = codes "Universe"
fault_name DiscoveryVector = codes "DiscoveryVector"
fault_name PageRange = codes "PageRange"
fault_name TooManyUniverses = codes "TooManyUniverses"
