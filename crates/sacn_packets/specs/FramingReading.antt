-- The checks of a framing layer's octets, in order, and what stands there where none fails.
use Rattle.std.specs.Prelude.{◌≡◌, ℕ, ◌≤◌, List, [], ◌∷◌, length, drop, nat_le, ◌==◌, Result, slice_index, slice_range}
use Rattle.sacn_packets.specs.declared.root.fault.PacketFault.{PacketFault}
use Rattle.sacn_packets.specs.declared.root.fault.PacketFault.TheVariants.{Flags, Length, FramingVector, Priority, Universe}
use Rattle.sacn_packets.specs.Check.{Check, check, checked}
use Rattle.sacn_packets.specs.Octets.{number16_at, number32_at, flags_of, length_of}
use Rattle.sacn_packets.specs.FramingText.{Framing, is_set}
use Rattle.sacn_packets.specs.declared.framing.layout.TheConstants.{VECTOR_AT, NAME_AT, PRIORITY_AT, SEQUENCE_NUMBER_AT, OPTIONS_AT, UNIVERSE_AT, DMP_AT}
use Rattle.sacn_packets.specs.declared.universe.TheConstants.{MAX_PRIORITY, MIN_UNIVERSE, MAX_UNIVERSE}

abbrev pub framing_checks : List ℕ → List Check
framing_checks octets =
    check (nat_le 2 (length octets)) Length
    ∷ check (flags_of octets 0 == 7) Flags
    ∷ check (length_of octets 0 == length octets) Length
    ∷ check (nat_le DMP_AT (length octets)) Length
    ∷ check (number32_at octets VECTOR_AT == 2) FramingVector
    ∷ check (nat_le (slice_index octets PRIORITY_AT) MAX_PRIORITY) Priority
    ∷ check (nat_le MIN_UNIVERSE (number16_at octets UNIVERSE_AT)) Universe
    ∷ check (nat_le (number16_at octets UNIVERSE_AT) MAX_UNIVERSE) Universe
    ∷ []

-- the checks before that of the priority pass
pub record IsHead (octets : List ℕ) : Type 0 where
  pub long : DMP_AT ≤ length octets
  pub flags : flags_of octets 0 ≡ 7
  pub len : length_of octets 0 ≡ length octets
  pub vector : number32_at octets VECTOR_AT ≡ 2

-- the framing layer that the octets are, where no check fails
abbrev pub framing_at : List ℕ → Framing
framing_at octets = record {
  name = slice_range octets NAME_AT PRIORITY_AT;
  priority = slice_index octets PRIORITY_AT;
  number = slice_index octets SEQUENCE_NUMBER_AT;
  preview = is_set (slice_index octets OPTIONS_AT) 7;
  terminated = is_set (slice_index octets OPTIONS_AT) 6;
  universe = number16_at octets UNIVERSE_AT;
  body = drop DMP_AT octets;
}

abbrev pub reading_framing : List ℕ → Result Framing PacketFault
reading_framing octets = checked (framing_checks octets) (framing_at octets)

-- what a reader of the body alone gets
abbrev pub reading_body : List ℕ → Result (List ℕ) PacketFault
reading_body octets = checked (framing_checks octets) (framing_at octets).body
