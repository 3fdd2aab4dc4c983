-- What C is told of a packet, and what it tells to a writer.
use Rattle.std.specs.Prelude.{◌≡◌, ℕ, nat_lt, Bool, true, false, not, ◌==◌, ◌||◌, List, [], ◌∷◌, ◌++◌, length, ⊤, Result, Ok, Err, if◌then◌else◌}
use Rattle.std.specs.List.{before_first}
use Rattle.sacn_packets.specs.PacketFaults.{fault_number}
use Rattle.sacn_packets.specs.declared.root.fault.PacketFault.{PacketFault}
use Rattle.sacn_packets.specs.declared.root.fault.PacketFault.TheVariants.{Priority, Universe, ValueCount}
use Rattle.sacn_packets.specs.declared.universe.TheConstants.{MAX_PRIORITY, MAX_UNIVERSE}
use Rattle.sacn_packets.specs.Data.{Data, frame_of}
use Rattle.sacn_packets.specs.Page.{Page}
use Rattle.sacn_packets.specs.declared.framing.packet.Packet.{Packet}
use Rattle.sacn_packets.specs.declared.framing.packet.Packet.TheVariants.{DataPacket, PagePacket, SyncPacket}
use Rattle.sacn_discovery.specs.Pages.{page_of_list}
use Rattle.sacn_monitor.specs.Accounts.{fitted}
use Rattle.sacn_c.specs.declared.status.TheConstants.{DONE}
use Rattle.sacn_c.specs.declared.packets.PacketFields.{PacketFields}

abbrev pub packet_status : Result Packet PacketFault → ℕ
packet_status (Ok packet) = 0
packet_status (Err fault) = fault_number fault

-- what is read, with a fault's number in its place
abbrev pub packet_or_status : Result Packet PacketFault → Result Packet ℕ
packet_or_status (Ok packet) = Ok packet
packet_or_status (Err fault) = Err (fault_number fault)

-- a bit, as C has it
abbrev pub bit_of : Bool → ℕ
bit_of true = 1
bit_of false = 0

pub record TellsData (f : PacketFields) (d : Data) : Type 0 where
  pub kind : f.kind ≡ 1
  pub cid : f.cid ≡ d.cid
  -- the whole field: the name, and behind its first NUL what the sender left there
  pub name : f.name ≡ d.name
  pub priority : f.priority ≡ d.priority
  pub number : f.number ≡ d.number
  pub preview : f.preview ≡ bit_of d.preview
  pub terminated : f.terminated ≡ bit_of d.terminated
  pub universe : f.universe ≡ d.universe
  pub start : f.start ≡ d.start
  pub count : f.count ≡ length d.slots

pub record TellsPage (f : PacketFields) (p : Page) : Type 0 where
  pub kind : f.kind ≡ 2
  pub cid : f.cid ≡ p.cid
  pub name : f.name ≡ p.name
  pub page : f.page ≡ p.page
  pub last : f.last ≡ p.last
  pub count : f.count ≡ length p.numbers

-- the fields are those of the packet
abbrev pub Tells : PacketFields → Packet → Type 0
Tells f (DataPacket d) = TellsData f d
Tells f (PagePacket p) = TellsPage f p
Tells f SyncPacket = f.kind ≡ 3

-- the fields after a packet: those that its kind doesn't have are as they were
abbrev pub fields_with : PacketFields → Packet → PacketFields
fields_with f (DataPacket d) = record f {
  kind = 1;
  cid = d.cid;
  name = d.name;
  priority = d.priority;
  number = d.number;
  preview = bit_of d.preview;
  terminated = bit_of d.terminated;
  universe = d.universe;
  start = d.start;
  count = length d.slots;
}
fields_with f (PagePacket p) = record f {
  kind = 2;
  cid = p.cid;
  name = p.name;
  page = p.page;
  last = p.last;
  count = length p.numbers;
}
fields_with f SyncPacket = record f { kind = 3 }

-- and as they were where there is none
abbrev pub fields_after : PacketFields → Result Packet PacketFault → PacketFields
fields_after f (Ok packet) = fields_with f packet
fields_after f (Err fault) = f

-- a name's field as text of C: the name up to its first NUL, NUL to the field's end, and one more
abbrev pub text_of : List ℕ → List ℕ
text_of name = fitted (before_first (λ octet. octet == 0) name) ++ 0 ∷ []

-- the frame is that of a data packet, and else as it was
abbrev pub ShowsFrame : List ℕ → List ℕ → Packet → Type 0
ShowsFrame before frame (DataPacket d) = frame ≡ frame_of d
ShowsFrame before frame (PagePacket p) = frame ≡ before
ShowsFrame before frame SyncPacket = frame ≡ before

-- the packet that C's fields and slots ask for
abbrev pub written : PacketFields → List ℕ → Data
written f slots = record {
  cid = f.cid;
  name = f.name;
  priority = f.priority;
  number = f.number;
  preview = not (f.preview == 0);
  terminated = not (f.terminated == 0);
  universe = f.universe;
  start = f.start;
  slots = slots;
}

-- with its slots the fields ask for that very data packet, and with a list of which it is a page for that very page
abbrev pub AskFor : Packet → PacketFields → Type 0
AskFor (DataPacket d) f = written f d.slots ≡ d
AskFor (PagePacket p) f = (list : List ℕ) → page_of_list list p.page p.cid p.name ≡ p → page_of_list list f.page f.cid f.name ≡ p
AskFor SyncPacket f = ⊤

-- the fault of the first field that is out of range
abbrev pub write_status : PacketFields → List ℕ → ℕ
write_status f slots =
    if nat_lt MAX_PRIORITY f.priority then fault_number Priority
    else if f.universe == 0 || nat_lt MAX_UNIVERSE f.universe then fault_number Universe
    else if nat_lt 512 (length slots) then fault_number ValueCount
    else DONE
