-- What a recording that is read shows of itself.
use Rattle.std.specs.Prelude.{◌≡◌, ℕ, ◌<◌, ◌⊎◌, List, [], length, take, map, ⊤, IfSome, option_map, Option, None, Some, Result, Ok, Err}
use Rattle.std.specs.Io.KnownBytes.{Consumes}
use Rattle.sacn_capture.specs.declared.frame_counts.FrameCounts.{FrameCounts}
use Rattle.sacn_capture.specs.declared.faults.CaptureFault.{CaptureFault}
use Rattle.sacn_capture.specs.declared.links.Passed.{Passed}
use Rattle.sacn_capture.specs.declared.links.Passed.TheVariants.{OtherLink, TooLong}
use Rattle.sacn_capture.specs.declared.links.LinkType.{LinkType}
use Rattle.sacn_capture.specs.declared.pcap.PcapHeader.{PcapHeader}
use Rattle.sacn_capture.specs.declared.headers.Format.TheVariants.{Pcap}
use Rattle.sacn_capture.specs.declared.stream.Capture.{Capture}
use Rattle.sacn_capture.specs.declared.stream.Record.{Record}
use Rattle.sacn_capture.specs.declared.stream.Step.{Step}
use Rattle.sacn_capture.specs.declared.stream.Step.TheVariants.{Ended, Found, Nothing}
use Rattle.sacn_capture.specs.declared.faults.FaultKind.{FaultKind}
use Rattle.sacn_capture.specs.declared.pieces.Pieces.{Pieces}
use Rattle.sacn_capture.specs.declared.buffer.Frame.{Frame}
use Rattle.sacn_capture.specs.declared.buffer.Frame.TheVariants.{Kept, LeftOut}
use Rattle.sacn_capture.specs.Pcap.{reading_record}
use Rattle.sacn_capture.specs.Placement.{content_in}
use Rattle.sacn_capture.specs.Frames.{Sent, sent_of}
use Rattle.sacn_capture.specs.Check.{map_ok}
use Rattle.sacn_capture.specs.Counting.{count_frame, passed_by}
use Rattle.sacn_capture.specs.Pcapng.{interface_of}
use Rattle.sacn_capture.specs.Files.{Place, Reading, Does, IsOutside}
use Rattle.sacn_capture.specs.Inputs.{place_of}
use Rattle.sacn_capture.specs.Recordings.{Shown, State, Piece, Told, start_of, ends, faulted, recording, rest_of, with_frame}

-- what the frames so far were
abbrev pub counts_of : {R : Type 0} → Capture R → FrameCounts
counts_of capture = capture.counts

-- how many octets of the file were read
abbrev pub place_of_reading : {R : Type 0} → Capture R → ℕ
place_of_reading capture = capture.pieces.input.at

-- the fault that ended the reading
abbrev pub stopped_by : {R : Type 0} → Capture R → Option CaptureFault
stopped_by capture = capture.stopped

-- where a frame's octets are: at the buffer's front, or nowhere, where its link isn't read or the buffer has no room
abbrev pub Holds : Option LinkType → Frame → List ℕ → List ℕ → Type 0
Holds link (Kept kind len) octets buffer = (link ≡ Some kind) × (len ≡ length octets) × (take len buffer ≡ octets)
Holds link (LeftOut passed) octets buffer = ((link ≡ None) × (passed ≡ OtherLink)) ⊎ ((length buffer < length octets) × (passed ≡ TooLong))

-- the reader gave so many octets, which are a frame's
abbrev pub TakesFrame : Option LinkType → ℕ → Frame → Option (List ℕ) → Option (List ℕ) → List ℕ → Type 0
TakesFrame link count frame old new buffer = (octets : List ℕ) × Consumes old new octets × (length octets ≡ count) × Holds link frame octets buffer

-- a frame stands behind a record's head, as the head's layout says
pub record ReadsFrame (header : PcapHeader) (head : List ℕ) (frame : Frame) (moment : Option ℕ) (old new : Option (List ℕ)) (buffer : List ℕ) : Type 0 where
  pub at : ℕ
  pub count : ℕ
  pub stamped : moment ≡ Some at
  pub says : reading_record header.stamp head ≡ Ok (record { moment = at; captured = count })
  pub takes : TakesFrame (Some header.link) count frame old new buffer

-- the reader gave a record: its head, and then as many octets as the head counts
pub record ReadsRecord (header : PcapHeader) (frame : Frame) (moment : Option ℕ) (old new : Option (List ℕ)) (buffer : List ℕ) : Type 0 where
  pub head : List ℕ
  pub between : Option (List ℕ)
  pub head_read : Consumes old between head
  pub frame_read : ReadsFrame header head frame moment between new buffer

-- the file is of the format pcap, and this is its header
abbrev pub IsPcap : {R : Type 0} → PcapHeader → Capture R → Type 0
IsPcap header capture = capture.pieces.format ≡ Pcap header

-- what is left of the file, where its reader tells
abbrev pub left_in : {R : Type 0} → (R → Option (List ℕ)) → Capture R → Option (List ℕ)
left_in remaining capture = remaining capture.pieces.input.reader

-- a record stands at the front of what was left, its moment is that of its head, and this is what stands in its frame
abbrev pub GivesRecord : PcapHeader → Option ℕ → Result Sent Passed → Option (List ℕ) → Type 0
GivesRecord header moment content old =
    (new : Option (List ℕ)) × (frame : Frame) × (buffer : List ℕ) × ReadsRecord header frame moment old new buffer × (content ≡ content_in frame buffer)

-- what a recording that is read says so far of what comes
abbrev pub state_of : {R : Type 0} → Pieces R → State
state_of pieces = record { format = pieces.format; interfaces = map interface_of pieces.interfaces.items; moment = pieces.moment }

-- where it stands, where the reader tells what is left
abbrev pub file_place : {R : Type 0} → (R → Option (List ℕ)) → Pieces R → Option Place
file_place remaining pieces = place_of remaining pieces.input

-- the frame that was read last
abbrev pub frame_shown : {R : Type 0} → Frame → Pieces R → Shown
frame_shown frame pieces = record { moment = pieces.moment; content = content_in frame pieces.buffer.octets.items }

-- the piece that was read last
abbrev pub gives_piece : {R : Type 0} → Option Frame → Pieces R → Piece
gives_piece None pieces = record { frame = None; next = state_of pieces }
gives_piece (Some frame) pieces = record { frame = Some (frame_shown frame pieces); next = state_of pieces }

-- a call on a recording did what a reading of its octets says
abbrev pub Reads : {R A : Type 0} → (R → Option (List ℕ)) → Reading A → Pieces R → Pieces R → Result A FaultKind → Type 0
Reads remaining reading old new result = Does reading (file_place remaining old) (file_place remaining new) result

-- a call read a piece of a recording
abbrev pub ReadsPiece : {R : Type 0} → (R → Option (List ℕ)) → Reading Piece → Pieces R → Pieces R → Result (Option Frame) FaultKind → Type 0
ReadsPiece remaining reading old new result = Reads remaining reading old new (map_ok (λ found. gives_piece found new) result)

-- nothing but the first header was read
abbrev pub IsBegun : {R : Type 0} → Pieces R → Type 0
IsBegun pieces = state_of pieces ≡ start_of pieces.format

abbrev pub opened_place : {R : Type 0} → (R → Option (List ℕ)) → Result (Pieces R) FaultKind → Option Place
opened_place remaining (Ok pieces) = file_place remaining pieces
opened_place remaining (Err fault) = None

-- what the rest of a recording gives, where the reader tells what is left: nothing but its fault, once there was one
abbrev pub to_come_by : Option CaptureFault → State → Option Place → Option Told
to_come_by (Some fault) state place = Some (faulted fault)
to_come_by None state place = option_map (rest_of state) place

abbrev pub to_come : {R : Type 0} → (R → Option (List ℕ)) → Capture R → Option Told
to_come remaining capture = to_come_by capture.stopped (state_of capture.pieces) (file_place remaining capture.pieces)

-- what a frame that is given shows
abbrev pub shown_of : Record → Shown
shown_of given = record { moment = given.moment; content = map_ok sent_of given.content }

-- a call gave what came first of what was to come, or what is wrong with it, and the rest is still to come
abbrev pub Gives : Result (Option Shown) CaptureFault → Option Told → Option Told → Type 0
Gives result None after = ⊤
Gives (Ok None) (Some all) after = (all ≡ ends) × (after ≡ Some ends)
Gives (Ok (Some frame)) (Some all) after = (rest : Told) × (after ≡ Some rest) × (all ≡ with_frame (Some frame) rest)
Gives (Err fault) (Some all) after = (after ≡ Some (faulted fault)) × (IsOutside fault.kind ⊎ (all ≡ faulted fault))

-- a recording was opened at its first octet, and all that it gives is to come; or this is what is wrong with it
abbrev pub Opens : {R : Type 0} → (R → Option (List ℕ)) → Option (List ℕ) → Result (Capture R) CaptureFault → Type 0
Opens remaining None result = ⊤
Opens remaining (Some file) (Ok capture) = to_come remaining capture ≡ Some (recording file)
Opens remaining (Some file) (Err fault) = IsOutside fault.kind ⊎ (recording file ≡ faulted fault)

-- what a call gave came first of what was to come
abbrev pub GivesFirst : Result (Option Shown) CaptureFault → Option Told → Type 0
GivesFirst result all = (after : Option Told) × Gives result all after

-- a piece was read: its frame was to come first, if it has one; a fault begins where the piece does
abbrev pub Steps : {R : Type 0} → Result Step FaultKind → ℕ → Pieces R → Option Told → Option Told → Type 0
Steps result at pieces None after = ⊤
Steps (Ok Ended) at pieces (Some all) after = (all ≡ ends) × (after ≡ Some ends)
Steps (Ok (Found frame)) at pieces (Some all) after = (rest : Told) × (after ≡ Some rest) × (all ≡ with_frame (Some (frame_shown frame pieces)) rest)
Steps (Ok Nothing) at pieces (Some all) after = after ≡ Some all
Steps (Err kind) at pieces (Some all) after = IsOutside kind ⊎ (all ≡ faulted (record { at = at; kind = kind }))

-- a step of a pcap file reads a record, or finds that nothing is left
abbrev pub StepReads : {R : Type 0} → PcapHeader → Step → Option (List ℕ) → Option (List ℕ) → Pieces R → Type 0
StepReads header Ended old new pieces = IfSome old (λ octets. octets ≡ [])
StepReads header (Found frame) old new pieces = ReadsRecord header frame pieces.moment old new pieces.buffer.octets.items
StepReads header Nothing old new pieces = ⊥

-- what was to come still is, and nothing else, where it is known
abbrev pub Stays : Option Told → Option Told → Type 0
Stays None new = ⊤
Stays (Some all) new = new ≡ Some all

-- why the frame that was read last is passed over
abbrev pub passed_in : {R : Type 0} → Frame → Pieces R → Option Passed
passed_in frame pieces = passed_by (content_in frame pieces.buffer.octets.items)

-- a call counts the frame that it gives
abbrev pub counted_with : Result (Option Shown) CaptureFault → FrameCounts → FrameCounts
counted_with (Ok None) counts = counts
counted_with (Ok (Some frame)) counts = count_frame (passed_by frame.content) counts
counted_with (Err fault) counts = counts

-- what a call gave came first of what was to come, what was behind it is still to come, and the frame is counted
abbrev pub GivesNext : {R : Type 0} → (R → Option (List ℕ)) → Result (Option Shown) CaptureFault → Capture R → Capture R → Type 0
GivesNext remaining result old new = Gives result (to_come remaining old) (to_come remaining new) × (counts_of new ≡ counted_with result (counts_of old))
