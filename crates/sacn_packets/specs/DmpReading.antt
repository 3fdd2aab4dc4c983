-- The checks of a DMP layer's octets, in order, and what stands there where none fails.
use Rattle.std.specs.Prelude.{ℕ, ◌+◌, List, [], ◌∷◌, length, drop, nat_le, ◌==◌, Result, slice_index}
use Rattle.sacn_packets.specs.declared.root.fault.PacketFault.{PacketFault}
use Rattle.sacn_packets.specs.declared.root.fault.PacketFault.TheVariants.{Flags, Length, DmpVector, AddressType, FirstAddress, Increment, ValueCount}
use Rattle.sacn_packets.specs.Check.{Check, check, checked}
use Rattle.sacn_packets.specs.Octets.{number16_at, flags_of, length_of}
use Rattle.sacn_packets.specs.declared.universe.TheConstants.{FRAME_OCTETS}
use Rattle.sacn_packets.specs.DmpText.{Dmp}
use Rattle.sacn_packets.specs.declared.dmp.layout.TheConstants.{VECTOR_AT, ADDRESS_TYPE_AT, FIRST_ADDRESS_AT, INCREMENT_AT, COUNT_AT, VALUES_AT, SLOTS_AT}

abbrev pub dmp_checks : List ℕ → List Check
dmp_checks octets =
    check (nat_le 2 (length octets)) Length
    ∷ check (flags_of octets 0 == 7) Flags
    ∷ check (length_of octets 0 == length octets) Length
    ∷ check (nat_le VALUES_AT (length octets)) Length
    ∷ check (slice_index octets VECTOR_AT == 0x02) DmpVector
    ∷ check (slice_index octets ADDRESS_TYPE_AT == 0xa1) AddressType
    ∷ check (number16_at octets FIRST_ADDRESS_AT == 0) FirstAddress
    ∷ check (number16_at octets INCREMENT_AT == 1) Increment
    ∷ check (nat_le 1 (number16_at octets COUNT_AT)) ValueCount
    ∷ check (nat_le (number16_at octets COUNT_AT) FRAME_OCTETS) ValueCount
    ∷ check (number16_at octets COUNT_AT + VALUES_AT == length octets) ValueCount
    ∷ []

-- what the checks alone answer: nothing, or the first fault
abbrev pub checking_dmp : List ℕ → Result (Unit {0}) PacketFault
checking_dmp octets = checked (dmp_checks octets) tt

-- the DMP layer that the octets are, where no check fails
abbrev pub dmp_at : List ℕ → Dmp
dmp_at octets = record { start = slice_index octets VALUES_AT; slots = drop SLOTS_AT octets }

abbrev pub reading_dmp : List ℕ → Result Dmp PacketFault
reading_dmp octets = checked (dmp_checks octets) (dmp_at octets)
