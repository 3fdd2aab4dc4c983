-- The core of a source: what the next datagram is, and what an order or a datagram makes of the core.
use Rattle.std.specs.Prelude.{◌≡◌, ℕ, ◌<◌, max, min, nat_lt, ◌==◌, if◌then◌else◌, List, [], map, find, Option, Some, None}
use Rattle.std.specs.Option.{option_map}
use Rattle.sacn_packets.specs.Data.{Data}
use Rattle.sacn_packets.specs.Universe.{IsPriority, Rising}
use Rattle.sacn_console.specs.Lines.{Page, Datagram, Packet, Paged}
use Rattle.sacn_console.specs.Core.{packet_with, page_by, paged}
use Rattle.sacn_console.specs.declared.limits.TheConstants.{CONSOLE_UNIVERSES}
use Rattle.sacn_console.specs.declared.sender.Sender.{Sender}
use Rattle.sacn_console.specs.declared.line.Begun.{Begun}
use Rattle.sacn_source.specs.declared.source_universe.SourceUniverse.{SourceUniverse}
use Rattle.sacn_source.specs.declared.fault.SourceFault.{SourceFault}
use Rattle.sacn_source.specs.declared.fault.SourceFault.TheVariants as fault
use Rattle.sacn_source.specs.Rows.{row_due, row_sent}
use Rattle.sacn_source.specs.Table.{Table, Order, row_at, on, standing, answer, taken}

-- what is asked of the earlier orders and datagrams of this life
pub record Source : Type 0 where
  pub sender : Sender
  pub first : ℕ
  pub table : Table
  pub cycle : Option Begun
  pub listed : List ℕ
  pub moment : ℕ

-- ---- what is due

-- the sender with the priority of one universe
abbrev pub prior : ℕ → Sender → Sender
prior p sender = record { cid = sender.cid; name = sender.name; priority = p }

-- the packet of a universe: all its 512 slots, and its own priority
unfoldable pub packet_of : Sender → SourceUniverse → Data
packet_of sender r = packet_with (prior r.priority sender) r.line r.levels

-- the packet of the row at place i
abbrev pub packet_at : Source → ℕ → Data
packet_at c i = packet_of c.sender (row_at c.table i)

unfoldable pub row_found : Source → Option SourceUniverse
row_found c = find (row_due c.moment) c.table.rows

unfoldable pub page_due : Source → Option Page
page_due c = page_by c.moment (standing c.table.rows) c.listed c.cycle

abbrev pub due_by : Source → Option SourceUniverse → Option Datagram
due_by c (Some r) = Some (Packet (packet_of c.sender r))
due_by c None = option_map Paged (page_due c)

-- the datagram of a poll at the core's moment: that of the least-numbered due universe, else a page
unfoldable pub due : Source → Option Datagram
due c = due_by c (row_found c)

-- ---- what a datagram makes of the core

abbrev pub rows_given : ℕ → Datagram → List SourceUniverse → List SourceUniverse
rows_given t (Packet d) rows = map (on d.universe (row_sent t)) rows
rows_given t (Paged p) rows = rows

abbrev pub cycle_given : ℕ → Datagram → Option Begun → Option Begun
cycle_given t (Packet d) b = b
cycle_given t (Paged p) b = paged t p b

abbrev pub listed_given : Datagram → List ℕ → List ℕ
listed_given (Packet d) listed = listed
listed_given (Paged p) listed = if p.page == 0 then p.list else listed

unfoldable pub sent : ℕ → Datagram → Source → Source
sent t d c = record {
  sender = c.sender;
  first = c.first;
  table = record { room = c.table.room; rows = rows_given t d c.table.rows };
  cycle = cycle_given t d c.cycle;
  listed = listed_given d c.listed;
  moment = c.moment;
}

-- ---- the steps

abbrev pub at : ℕ → Source → Source
at now c = record { sender = c.sender; first = c.first; table = c.table; cycle = c.cycle; listed = c.listed; moment = max c.moment now }

abbrev pub given : Option Datagram → Source → Source
given None c = c
given (Some d) c = sent c.moment d c

abbrev pub after_poll : ℕ → Source → Source
after_poll now c = given (due (at now c)) (at now c)

-- after an order: a refused one leaves all as it was
abbrev pub after_order : Order → Source → Source
after_order order c = record {
  sender = c.sender;
  first = c.first;
  table = taken c.first c.sender.priority order (answer order c.table) c.table;
  cycle = c.cycle;
  listed = c.listed;
  moment = c.moment;
}

-- ---- the beginning

-- a source as its life begins
abbrev pub new_source : Sender → ℕ → ℕ → Source
new_source sender room first = record {
  sender = sender;
  first = first;
  table = record { room = min room CONSOLE_UNIVERSES; rows = [] };
  cycle = None;
  listed = [];
  moment = 0;
}

-- why none is made
abbrev pub new_fault : Sender → SourceFault
new_fault sender = if nat_lt 200 sender.priority then fault.BadPriority else fault.OutOfMemory

-- ---- what holds of each core

pub record SourceOk (c : Source) : Type 0 where
  pub listed : Rising c.listed
  pub priority : IsPriority c.sender.priority
  pub later : (b : Begun) → c.cycle ≡ Some b → 0 < b.next
