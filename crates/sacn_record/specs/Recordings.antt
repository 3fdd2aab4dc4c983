-- A recording of what was heard.
use Rattle.std.specs.Prelude.{ℕ, List, ◌++◌}
use Rattle.std.specs.List.{flat_map}
use Rattle.sacn_capture.specs.Frames.{Sent}
use Rattle.sacn_record.specs.declared.heard.Heard.{Heard}
use Rattle.sacn_record.specs.Packets.{packet}
use Rattle.sacn_record.specs.Blocks.{block, section_body, interface_body, packet_body}

-- a datagram that was heard at a moment, in microseconds since 1970
pub record Taken : Type 0 where
  pub moment : ℕ
  pub sent : Sent

-- what stands before the first datagram: a section header (type 0x0a0d0d0a) and one interface (type 1)
unfoldable pub beginning : List ℕ → List ℕ
beginning program = block 0x0a0d0d0a (section_body program) ++ block 1 interface_body

-- a datagram in an enhanced packet block (type 6)
unfoldable pub datagram_block : Taken → List ℕ
datagram_block taken = block 6 (packet_body taken.moment (packet taken.sent))

-- the recording that a program made of datagrams
abbrev pub recording_of : List ℕ → List Taken → List ℕ
recording_of program all = beginning program ++ flat_map datagram_block all

-- what was heard, of the values in it
abbrev pub sent_of : Heard → Sent
sent_of h = record {
  sender = h.sender;
  sender_port = h.sender_port;
  destination = h.destination;
  destination_port = h.destination_port;
  payload = h.payload.now;
}

abbrev pub taken_of : Heard → Taken
taken_of h = record { moment = h.moment; sent = sent_of h }
