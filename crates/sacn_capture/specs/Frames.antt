-- A datagram of UDP in a packet of IPv4 (RFC 791, RFC 768).
use Rattle.std.specs.Prelude.{ℕ, List, [], ◌∷◌, ◌+◌, ◌*◌, ◌/◌, ◌%◌, ◌^◌, ◌==◌, ◌≤◌, Bool, length, drop, nat_le, slice_index, slice_range, Result}
use Rattle.sacn_capture.specs.declared.links.LinkType.{LinkType}
use Rattle.sacn_capture.specs.declared.links.Passed.{Passed}
use Rattle.sacn_capture.specs.declared.links.Passed.TheVariants.{NotIpv4, NotUdp, Fragment, Cut}
use Rattle.sacn_capture.specs.declared.octets.ByteOrder.TheVariants.{Big}
use Rattle.sacn_capture.specs.declared.frame.Datagram.{Datagram}
use Rattle.sacn_capture.specs.declared.frame.Sighting.{Sighting}
use Rattle.sacn_capture.specs.Check.{checked, ◌>>=◌}
use Rattle.sacn_capture.specs.Octets.{number16}
use Rattle.sacn_capture.specs.Links.{place_of}

-- what a datagram is: who sent it from which port, to whom, and its octets
pub record Sent : Type 0 where
  pub sender : List ℕ
  pub sender_port : ℕ
  pub destination : List ℕ
  pub destination_port : ℕ
  pub payload : List ℕ

-- IPv4's header: version and words in octet 0, the packet's length in 2 and 3, fragments in 6 and 7, the protocol in 9, addresses from 12 and from 16
abbrev pub head_of : List ℕ → ℕ
head_of packet = 4 * (slice_index packet 0 % 2 ^ 4)

abbrev pub total_of : List ℕ → ℕ
total_of packet = number16 Big packet 2

-- the length that UDP has after its ports, which counts its own eight octets
abbrev pub udp_length : List ℕ → ℕ
udp_length packet = number16 Big packet (head_of packet + 4)

-- "more fragments" and the place among them are the low fourteen bits
abbrev pub packet_checks : List ℕ → List (Bool × Passed)
packet_checks packet =
    (nat_le 20 (length packet), Cut)
    ∷ (slice_index packet 0 / 2 ^ 4 == 4, NotIpv4)
    ∷ (nat_le 20 (head_of packet), NotIpv4)
    ∷ (slice_index packet 9 == 17, NotUdp)
    ∷ (number16 Big packet 6 % 2 ^ 14 == 0, Fragment)
    ∷ (nat_le (head_of packet + 8) (total_of packet), Cut)
    ∷ (nat_le (total_of packet) (length packet), Cut)
    ∷ (nat_le 8 (udp_length packet), Cut)
    ∷ (nat_le (head_of packet + udp_length packet) (total_of packet), Cut)
    ∷ []

abbrev pub sent_at : List ℕ → Sent
sent_at packet = record {
  sender = slice_range packet 12 16;
  sender_port = number16 Big packet (head_of packet);
  destination = slice_range packet 16 20;
  destination_port = number16 Big packet (head_of packet + 2);
  payload = slice_range packet (head_of packet + 8) (head_of packet + udp_length packet);
}

abbrev pub reading_packet : List ℕ → Result Sent Passed
reading_packet packet = checked (packet_checks packet) (sent_at packet)

-- the datagram of a frame, or the first test that fails
abbrev pub reading_datagram : LinkType → List ℕ → Result Sent Passed
reading_datagram link frame = place_of link frame >>= (λ place. reading_packet (drop place frame))

-- what a datagram shows
abbrev pub sent_of : Datagram → Sent
sent_of d = record { sender = d.sender; sender_port = d.sender_port; destination = d.destination; destination_port = d.destination_port; payload = d.payload.now }

-- what a datagram is that was seen among octets, with what it carried by its place
abbrev pub seen_among : List ℕ → Sighting → Sent
seen_among octets s = record { sender = s.sender; sender_port = s.sender_port; destination = s.destination; destination_port = s.destination_port; payload = slice_range octets s.begin s.end }

-- what it carried stands within so many octets
abbrev pub IsWithin : ℕ → Sighting → Type 0
IsWithin count s = (s.begin ≤ s.end) × (s.end ≤ count)
