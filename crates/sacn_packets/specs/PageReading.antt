-- The checks of an extended packet's framing layer, in order, and what stands there where none fails.
use Rattle.std.specs.Prelude.{ℕ, ◌+◌, ◌%◌, List, [], ◌∷◌, length, drop, nat_le, ◌==◌, ◌||◌, Result, slice_index, slice_range}
use Rattle.sacn_packets.specs.declared.root.fault.PacketFault.{PacketFault}
use Rattle.sacn_packets.specs.declared.root.fault.PacketFault.TheVariants.{Flags, Length, FramingVector, DiscoveryVector, PageRange, TooManyUniverses}
use Rattle.sacn_packets.specs.Check.{Check, check, checked}
use Rattle.sacn_packets.specs.Octets.{number32_at, flags_of, length_of}
use Rattle.sacn_packets.specs.Page.{numbers_of}
use Rattle.sacn_packets.specs.PageText.{PageLayer}
use Rattle.sacn_packets.specs.declared.framing.layout.TheConstants.{VECTOR_AT, NAME_AT, DISCOVERY_AT, LIST_VECTOR_AT, PAGE_AT, LAST_PAGE_AT, UNIVERSES_AT}

abbrev pub extended_checks : List ℕ → List Check
extended_checks octets =
    check (nat_le 2 (length octets)) Length
    ∷ check (flags_of octets 0 == 7) Flags
    ∷ check (length_of octets 0 == length octets) Length
    ∷ check (nat_le 6 (length octets)) Length
    ∷ check (number32_at octets VECTOR_AT == 1 || number32_at octets VECTOR_AT == 2) FramingVector
    ∷ []

-- the framing vector, where no check fails
abbrev pub reading_extended_vector : List ℕ → Result ℕ PacketFault
reading_extended_vector octets = checked (extended_checks octets) (number32_at octets VECTOR_AT)

abbrev pub page_checks : List ℕ → List Check
page_checks octets =
    check (nat_le UNIVERSES_AT (length octets)) Length
    ∷ check (flags_of octets DISCOVERY_AT == 7) Flags
    ∷ check (length_of octets DISCOVERY_AT + DISCOVERY_AT == length octets) Length
    ∷ check (length_of octets DISCOVERY_AT % 2 == 0) Length
    ∷ check (number32_at octets LIST_VECTOR_AT == 1) DiscoveryVector
    ∷ check (nat_le (slice_index octets PAGE_AT) (slice_index octets LAST_PAGE_AT)) PageRange
    ∷ check (nat_le (length octets) 1106) TooManyUniverses
    ∷ []

abbrev pub page_at : List ℕ → PageLayer
page_at octets = record {
  name = slice_range octets NAME_AT (NAME_AT + 64);
  page = slice_index octets PAGE_AT;
  last = slice_index octets LAST_PAGE_AT;
  numbers = numbers_of (drop UNIVERSES_AT octets);
}

-- what the checks alone answer: nothing, or the first fault
abbrev pub checking_page : List ℕ → Result (Unit {0}) PacketFault
checking_page octets = checked (page_checks octets) tt

abbrev pub reading_page : List ℕ → Result PageLayer PacketFault
reading_page octets = checked (page_checks octets) (page_at octets)
