-- A datagram of UDP in a packet of IPv4, written (RFC 791, RFC 768).
use Rattle.std.specs.Prelude.{ℕ, ◌+◌, ◌-◌, ◌^◌, List, [], ◌∷◌, ◌++◌, length, nat_lt, if◌then◌else◌}
use Rattle.std.specs.Int.{w16, to_be_bytes, from_be_bytes}
use Rattle.sacn_capture.specs.Frames.{Sent}

-- a number of sixteen bits, the high octet first
unfoldable pub big16 : ℕ → List ℕ
big16 n = to_be_bytes w16 n

-- one's complement addition of sixteen bits: what is carried out at the top is added at the bottom
unfoldable pub ones_add : ℕ → ℕ → ℕ
ones_add a b = if nat_lt (a + b) (2 ^ 16) then a + b else (a + b) - (2 ^ 16 - 1)

-- a sum, and with it the numbers of sixteen bits that octets make two by two
abbrev pub ones_sum : ℕ → List ℕ → ℕ
ones_sum sum [] = sum
ones_sum sum (high ∷ []) = ones_add sum (from_be_bytes w16 (high ∷ 0 ∷ []))
ones_sum sum (high ∷ low ∷ octets) = ones_sum (ones_add sum (from_be_bytes w16 (high ∷ low ∷ []))) octets

-- the one's complement of that sum
unfoldable pub checksum : List ℕ → ℕ
checksum header = (2 ^ 16 - 1) - ones_sum 0 header

-- version 4, five words of header, no service asked for; the packet's length; no identification; "don't fragment"; 64 hops; UDP; the checksum; the addresses
unfoldable pub ipv4_header : ℕ → Sent → List ℕ
ipv4_header sum sent =
    (0x45 ∷ 0 ∷ []) ++ big16 (28 + length sent.payload) ++ big16 0 ++ big16 (2 ^ 14) ++ (64 ∷ 17 ∷ []) ++ big16 sum ++ sent.sender ++ sent.destination

-- the ports, the length from here on, and no checksum
unfoldable pub udp_header : Sent → List ℕ
udp_header sent = big16 sent.sender_port ++ big16 sent.destination_port ++ big16 (8 + length sent.payload) ++ big16 0

-- a packet; its header's checksum is that of the header with a checksum of zero
unfoldable pub packet : Sent → List ℕ
packet sent = ipv4_header (checksum (ipv4_header 0 sent)) sent ++ udp_header sent ++ sent.payload
