-- The blocks of a pcapng file whose numbers have the low octet first, written.
use Rattle.std.specs.Prelude.{ℕ, ◌+◌, ◌-◌, ◌/◌, ◌%◌, ◌^◌, List, [], ◌∷◌, ◌++◌, length, replicate}
use Rattle.std.specs.Int.{w16, w32, w64, to_le_bytes}

unfoldable pub little16 : ℕ → List ℕ
little16 n = to_le_bytes w16 n

unfoldable pub little32 : ℕ → List ℕ
little32 n = to_le_bytes w32 n

-- octets of zero up to the next multiple of four
unfoldable pub padding : ℕ → List ℕ
padding len = replicate ((4 - len % 4) % 4) 0

-- type, length of the whole block, body, length again
unfoldable pub block : ℕ → List ℕ → List ℕ
block kind body = little32 kind ++ little32 (length body + 12) ++ body ++ little32 (length body + 12)

-- code, length of the value, value and padding
unfoldable pub option : ℕ → List ℕ → List ℕ
option code value = little16 code ++ little16 (length value) ++ value ++ padding (length value)

abbrev pub end_of_options : List ℕ
end_of_options = little16 0 ++ little16 0

-- the number by which the byte order is known, version 1.0, a section of unknown length, the program that wrote it
unfoldable pub section_body : List ℕ → List ℕ
section_body program = little32 0x1a2b3c4d ++ little16 1 ++ little16 0 ++ to_le_bytes w64 (2 ^ 64 - 1) ++ option 4 program ++ end_of_options

-- packets of IPv4 without a link's header (228), kept whole, their moments in millionths of a second
unfoldable pub interface_body : List ℕ
interface_body = little16 228 ++ little16 0 ++ little32 0 ++ option 9 (6 ∷ []) ++ end_of_options

-- the first interface, the moment with its high half first, octets kept, octets that there were
unfoldable pub packet_body : ℕ → List ℕ → List ℕ
packet_body moment packet =
    little32 0 ++ little32 (moment / 2 ^ 32) ++ little32 (moment % 2 ^ 32) ++ little32 (length packet) ++ little32 (length packet)
    ++ packet ++ padding (length packet)
