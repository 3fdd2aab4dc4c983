-- What a whole recording gives: its format, piece by piece, over the octets of the file.
use Rattle.std.specs.Prelude.{ℕ, ◌-◌, ◌==◌, List, [], ◌∷◌, ◌++◌, length, zero, suc, nat_le, nat_lt, slice_get, Option, None, Some, Result, Ok, Err, if◌then◌else◌}
use Rattle.sacn_capture.specs.declared.faults.FaultKind.{FaultKind}
use Rattle.sacn_capture.specs.declared.faults.FaultKind.TheVariants.{NotACapture, Length, Interface as UnknownInterface}
use Rattle.sacn_capture.specs.declared.faults.CaptureFault.{CaptureFault}
use Rattle.sacn_capture.specs.declared.links.LinkType.{LinkType}
use Rattle.sacn_capture.specs.declared.links.Passed.{Passed}
use Rattle.sacn_capture.specs.declared.links.Passed.TheVariants.{OtherLink, TooLong}
use Rattle.sacn_capture.specs.declared.octets.ByteOrder.{ByteOrder}
use Rattle.sacn_capture.specs.declared.octets.ByteOrder.TheVariants.{Big}
use Rattle.sacn_capture.specs.declared.pcap.PcapHeader.{PcapHeader}
use Rattle.sacn_capture.specs.declared.pcap.Stamp.{Stamp}
use Rattle.sacn_capture.specs.declared.pcapng.EnhancedHead.{EnhancedHead}
use Rattle.sacn_capture.specs.declared.pcapng.BlockKind.{BlockKind}
use Rattle.sacn_capture.specs.declared.pcapng.BlockKind.TheVariants.{Interface, Simple, Enhanced, Other}
use Rattle.sacn_capture.specs.declared.headers.Format.{Format}
use Rattle.sacn_capture.specs.declared.headers.Format.TheVariants.{Pcap, Pcapng}
use Rattle.sacn_capture.specs.Check.{checked}
use Rattle.sacn_capture.specs.Clocks.{milliseconds, shifted}
use Rattle.sacn_capture.specs.Octets.{number32}
use Rattle.sacn_capture.specs.Frames.{Sent, reading_datagram}
use Rattle.sacn_capture.specs.Pcap.{given, stamp_of, header_at, reading_record}
use Rattle.sacn_capture.specs.Pcapng.{Taken, section_type, reading_block, reading_section, reading_interface, reading_enhanced, reading_simple}
use Rattle.sacn_capture.specs.Files.{Place, Reading, octets, says, gives, ◌▷◌}

-- a frame: its moment, in milliseconds since 1970, none where neither it nor a frame before it has one, and its datagram
-- or why it is passed over
pub record Shown : Type 0 where
  pub moment : Option ℕ
  pub content : Result Sent Passed

-- what a recording gives: its frames in order, and then its end, or what is wrong and where
pub record Told : Type 0 where
  pub frames : List Shown
  pub fault : Option CaptureFault

-- what went before says of what comes: how the file is written, the interfaces of the section, the moment of the last frame, none
-- where no frame so far has one
pub record State : Type 0 where
  pub format : Format
  pub interfaces : List Taken
  pub moment : Option ℕ

-- a piece of a file, a record or a block: its frame, where it has one, and what it says of what comes
pub record Piece : Type 0 where
  pub frame : Option Shown
  pub next : State

-- what stands in a frame of a link; frames above 65,535 octets are passed over
abbrev pub frame_content : Option LinkType → List ℕ → Result Sent Passed
frame_content None frame = Err OtherLink
frame_content (Some link) frame = if nat_le (length frame) 65535 then reading_datagram link frame else Err TooLong

-- a piece with a frame
abbrev pub framed : Option LinkType → Option ℕ → State → List ℕ → Piece
framed link moment state frame = record { frame = Some (record { moment = moment; content = frame_content link frame }); next = record state { moment = moment } }

-- a record of a pcap file: a head of 16 octets, and as many octets of a frame as it counts
abbrev pub record_behind : PcapHeader → State → List ℕ → Reading Piece
record_behind header state head = says (reading_record header.stamp head) ▷ λ h. octets h.captured ▷ λ frame. gives (framed (Some header.link) (Some h.moment) state frame)

abbrev pub record_piece : PcapHeader → State → Reading Piece
record_piece header state = octets 16 ▷ λ head. record_behind header state head

-- a block ends with its length, once more
abbrev pub closed : ByteOrder → ℕ → Reading ℕ
closed order size = octets 4 ▷ λ again. says (checked ((number32 order again 0 == size, Length) ∷ []) size)

-- so many octets that say nothing here, and a block's end
abbrev pub skipped : ℕ → ByteOrder → ℕ → Reading ℕ
skipped n order size = octets n ▷ λ _. closed order size

-- a section header, whose first eight octets are given: the order of its numbers
abbrev pub section_behind : List ℕ → Reading ByteOrder
section_behind head = octets 8 ▷ λ more. says (reading_section (head ++ more)) ▷ λ s. skipped (s.length - 20) s.order s.length ▷ λ _. gives s.order

-- a section begins without interfaces
abbrev pub section_piece : State → List ℕ → Reading Piece
section_piece state head = section_behind head ▷ λ order. gives (record { frame = None; next = record state { format = Pcapng order; interfaces = [] } })

-- an interface of the section, and its block's end
abbrev pub interface_end : ByteOrder → ℕ → State → Taken → Reading Piece
interface_end order size state interface = closed order size ▷ λ _. gives (record { frame = None; next = record state { interfaces = state.interfaces ++ interface ∷ [] } })

abbrev pub interface_body : ByteOrder → ℕ → State → List ℕ → Reading Piece
interface_body order size state body = says (reading_interface order body) ▷ λ interface. interface_end order size state interface

-- the octets that describe an interface, at most 65,535, in a section that has described less than 256
abbrev pub interface_size : ℕ → ℕ → Result ℕ FaultKind
interface_size size described = checked ((nat_le (size - 12) 65535, Length) ∷ (nat_lt described 256, UnknownInterface) ∷ []) (size - 12)

-- an interface of the section, described in so many octets
abbrev pub described_by : ℕ → ByteOrder → ℕ → State → Reading Piece
described_by n order size state = octets n ▷ λ body. interface_body order size state body

abbrev pub interface_piece : ByteOrder → ℕ → State → Reading Piece
interface_piece order size state = says (interface_size size (length state.interfaces)) ▷ λ n. described_by n order size state

-- the interface of a number in its section, counted from 0
abbrev pub interface_at : State → ℕ → Result Taken FaultKind
interface_at state index = given UnknownInterface (slice_get state.interfaces index)

-- a packet's frame of so many octets, the rest of its block, and the block's end
abbrev pub packet_behind : Option LinkType → ℕ → Option ℕ → ℕ → ByteOrder → ℕ → State → Reading Piece
packet_behind link captured moment rest order size state = octets captured ▷ λ frame. skipped rest order size ▷ λ _. gives (framed link moment state frame)

-- an enhanced packet: a head of 20 octets, which names an interface of the section, the frame, and options
abbrev pub enhanced_behind : ByteOrder → ℕ → State → EnhancedHead → Reading Piece
enhanced_behind order size state head =
    says (interface_at state head.interface)
    ▷ λ interface. packet_behind interface.link head.captured (Some (shifted interface.shift (milliseconds head.ticks interface.units))) (size - 32 - head.captured) order size state

abbrev pub enhanced_piece : ByteOrder → ℕ → State → Reading Piece
enhanced_piece order size state = octets 20 ▷ λ head. says (reading_enhanced order size head) ▷ λ h. enhanced_behind order size state h

-- a simple packet: its length on the link, and the frame; it is of the section's first interface, and has the moment of the frame
-- before, so none where no frame before has one
abbrev pub simple_behind : ByteOrder → ℕ → State → Taken → Reading Piece
simple_behind order size state interface =
    octets 4
    ▷ λ head. says (reading_simple order size interface.longest head)
    ▷ λ captured. packet_behind interface.link captured state.moment (size - 16 - captured) order size state

abbrev pub simple_piece : ByteOrder → ℕ → State → Reading Piece
simple_piece order size state = says (interface_at state 0) ▷ λ interface. simple_behind order size state interface

-- a block that is no section header, by its type
abbrev pub block_piece : ByteOrder → ℕ → State → BlockKind → Reading Piece
block_piece order size state Interface = interface_piece order size state
block_piece order size state Enhanced = enhanced_piece order size state
block_piece order size state Simple = simple_piece order size state
block_piece order size state Other = skipped (size - 12) order size ▷ λ _. gives (record { frame = None; next = state })

-- a block: its type and its length, and what stands behind them
abbrev pub other_behind : ByteOrder → State → List ℕ → Reading Piece
other_behind order state head = says (reading_block order head) ▷ λ h. block_piece order h.length state h.kind

abbrev pub block_behind : ByteOrder → State → List ℕ → Reading Piece
block_behind order state head = if number32 Big head 0 == section_type then section_piece state head else other_behind order state head

-- the piece at a place, by the file's format
abbrev pub piece_by : Format → State → Reading Piece
piece_by (Pcap header) state = record_piece header state
piece_by (Pcapng order) state = octets 8 ▷ λ head. block_behind order state head

abbrev pub piece : State → Reading Piece
piece state = piece_by state.format state

abbrev pub ends : Told
ends = record { frames = []; fault = None }

abbrev pub faulted : CaptureFault → Told
faulted fault = record { frames = []; fault = Some fault }

abbrev pub with_frame : Option Shown → Told → Told
with_frame None told = told
with_frame (Some frame) told = record told { frames = frame ∷ told.frames }

-- what a piece tells, and then those behind it; or what is wrong with it, and where it begins
abbrev pub told_by : ℕ → Result (Piece × Place) FaultKind → (State → Place → Told) → Told
told_by at (Err kind) behind = faulted (record { at = at; kind = kind })
told_by at (Ok read) behind = with_frame read.0.frame (behind read.0.next read.1)

-- where no octet is left the recording ends
abbrev pub unless_ended : List ℕ → Told → Told
unless_ended [] told = ends
unless_ended (octet ∷ left) told = told

-- at most so many pieces, to the file's end
abbrev pub pieces : ℕ → State → Place → Told
pieces zero state place = ends
pieces (suc most) state place = unless_ended place.left (told_by place.at (piece state place) (pieces most))

-- all that is left; no piece is empty, so there are no more of them than octets
abbrev pub rest_of : State → Place → Told
rest_of state place = pieces (length place.left) state place

abbrev pub start_of : Format → State
start_of format = record { format = format; interfaces = []; moment = None }

-- a file's first octets: without eight of them it is no recording
abbrev pub first_octets : Reading (List ℕ)
first_octets place = if nat_le 8 (length place.left) then octets 8 place else Err NotACapture

-- the header of a pcap file, whose first eight octets are given
abbrev pub header_behind : Stamp → List ℕ → Reading Format
header_behind stamp front = octets 16 ▷ λ more. says (header_at stamp (front ++ more)) ▷ λ header. gives (Pcap header)

abbrev pub pcap_behind : List ℕ → Reading Format
pcap_behind front = says (given NotACapture (stamp_of front)) ▷ λ stamp. header_behind stamp front

-- the format that they tell, with what stands behind them
abbrev pub opening_behind : List ℕ → Reading Format
opening_behind front = if number32 Big front 0 == section_type then (section_behind front ▷ λ order. gives (Pcapng order)) else pcap_behind front

abbrev pub opening : Reading Format
opening = first_octets ▷ opening_behind

abbrev pub told_of : Result (Format × Place) FaultKind → Told
told_of (Err kind) = faulted (record { at = 0; kind = kind })
told_of (Ok opened) = rest_of (start_of opened.0) opened.1

-- what a file of these octets gives, from its first to its last
abbrev pub recording : List ℕ → Told
recording file = told_of (opening (record { at = 0; left = file }))
