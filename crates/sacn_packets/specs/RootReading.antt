-- The checks of a root layer's octets, in order, and what stands there where none fails.
use Rattle.std.specs.Prelude.{ℕ, ◌+◌, List, [], ◌∷◌, length, nat_le, ◌==◌, ◌||◌, Result, slice_range}
use Rattle.std.specs.Str.{bytes_eq}
use Rattle.sacn_packets.specs.declared.root.fault.PacketFault.{PacketFault}
use Rattle.sacn_packets.specs.declared.root.fault.PacketFault.TheVariants.{TooShort, Preamble, Postamble, Identifier, Flags, Length, RootVector}
use Rattle.sacn_packets.specs.Check.{Check, check, checked}
use Rattle.sacn_packets.specs.Octets.{number16_at, number32_at, flags_of, length_of}
use Rattle.sacn_packets.specs.RootText.{Root, identifier}
use Rattle.sacn_packets.specs.declared.root.layout.TheConstants.{PREAMBLE_SIZE_AT, POSTAMBLE_SIZE_AT, IDENTIFIER_AT, PDU_AT, VECTOR_AT, CID_AT, BODY_AT}

abbrev pub root_checks : List ℕ → List Check
root_checks octets =
    check (nat_le 2 (length octets)) TooShort
    ∷ check (number16_at octets PREAMBLE_SIZE_AT == 16) Preamble
    ∷ check (nat_le 4 (length octets)) TooShort
    ∷ check (number16_at octets POSTAMBLE_SIZE_AT == 0) Postamble
    ∷ check (nat_le 16 (length octets)) TooShort
    ∷ check (bytes_eq (slice_range octets IDENTIFIER_AT PDU_AT) identifier) Identifier
    ∷ check (nat_le 18 (length octets)) TooShort
    ∷ check (flags_of octets PDU_AT == 7) Flags
    ∷ check (nat_le 22 (length_of octets PDU_AT)) Length
    ∷ check (nat_le (PDU_AT + length_of octets PDU_AT) (length octets)) TooShort
    ∷ check (number32_at octets VECTOR_AT == 4 || number32_at octets VECTOR_AT == 8) RootVector
    ∷ []

-- the root layer at the front, where no check fails
abbrev pub root_at : List ℕ → Root
root_at octets = record {
  vector = number32_at octets VECTOR_AT;
  cid = slice_range octets CID_AT BODY_AT;
  body = slice_range octets BODY_AT (PDU_AT + length_of octets PDU_AT);
}

abbrev pub reading_root : List ℕ → Result Root PacketFault
reading_root octets = checked (root_checks octets) (root_at octets)
