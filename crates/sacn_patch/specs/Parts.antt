-- Which octet of a level a slot shows.
use Rattle.std.specs.Prelude.{◌≡◌, ℕ, ◌+◌, ◌*◌, ◌/◌, ◌%◌, Bool, true, false, List, get_or, refl}
use Rattle.std.proofs.Common.{ap}
use Rattle.std.specs.Coded.{Coded, code_by, coded×, coded_ℕ, coded_bool}
use Rattle.sacn_patch.specs.declared.part.Part.{Part}
use Rattle.sacn_patch.specs.declared.part.LevelByte.{LevelByte}
use Rattle.sacn_patch.specs.declared.part.LevelByte.TheVariants.{High, Low}

abbrev pub byte_of_level : ℕ → LevelByte → ℕ
byte_of_level level High = level / 256
byte_of_level level Low = level % 256

-- the high or the low octet of the level
abbrev pub part_of_level : ℕ → Part → ℕ
part_of_level level part = byte_of_level level part.byte

abbrev pub high_part : ℕ → Part
high_part channel = record { channel = channel; byte = High }

abbrev pub low_part : ℕ → Part
low_part channel = record { channel = channel; byte = Low }

-- ---- octets of all levels in one row

abbrev pub place_in_pair : LevelByte → ℕ
place_in_pair High = 0
place_in_pair Low = 1

-- the octets of channel c stand at 2 c and 2 c + 1, the high one first
abbrev pub octet_place : Part → ℕ
octet_place part = 2 * part.channel + place_in_pair part.byte

-- the octets of each channel's level stand in their places, 0 where the row has none
abbrev pub AreOctets : (ℕ → ℕ) → List ℕ → Type 0
AreOctets level octets = (part : Part) → get_or octets (octet_place part) 0 ≡ part_of_level (level part.channel) part

-- ---- codes

abbrev pub is_low : LevelByte → Bool
is_low High = false
is_low Low = true

abbrev pub byte_if_low : Bool → LevelByte
byte_if_low false = High
byte_if_low true = Low

pub byte_if_low-is_low : (b : LevelByte) → byte_if_low (is_low b) ≡ b
byte_if_low-is_low High = refl
byte_if_low-is_low Low = refl

abbrev pub part_code : Coded Part
part_code = code_by (ℕ × Bool) (coded× coded_ℕ coded_bool) (λ p. (p.channel, is_low p.byte)) (λ q. record { channel = q.0; byte = byte_if_low q.1 }) (λ p. ap (λ b. let part : Part = record { channel = p.channel; byte = b } in part) (byte_if_low-is_low p.byte))
