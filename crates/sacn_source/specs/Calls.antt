-- What a source gives and answers, by the list of accepted orders and of the datagrams given in this life alone. The lists have the latest first.
use Rattle.std.specs.Prelude.{◌≡◌, ℕ, ◌+◌, ◌<◌, ◌%◌, max, min, Bool, true, false, not, ◌&&◌, ◌||◌, ◌==◌, nat_lt, nat_le, if◌then◌else◌, List, [], ◌∷◌, map, filter, find, length, Option, Some, None, Result, Ok, Err}
use Rattle.std.specs.Option.{option_map}
use Rattle.sacn_packets.specs.Data.{Data}
use Rattle.sacn_console.specs.Lines.{Datagram, Packet, Paged}
use Rattle.sacn_console.specs.Core.{page_by, paged}
use Rattle.sacn_console.specs.Due.{Sent, on_universe, Mode, Runs, Ends, Stops, terminations, mode_by, latest, due_in, is_stop, is_end}
use Rattle.sacn_console.specs.Runs.{state_by}
use Rattle.sacn_console.specs.declared.limits.TheConstants.{CONSOLE_UNIVERSES}
use Rattle.sacn_console.specs.declared.sender.Sender.{Sender}
use Rattle.sacn_console.specs.declared.line.Begun.{Begun}
use Rattle.sacn_source.specs.declared.source_universe.SourceUniverse.{SourceUniverse}
use Rattle.sacn_source.specs.declared.fault.SourceFault.{SourceFault}
use Rattle.sacn_source.specs.declared.fault.SourceFault.TheVariants as fault
use Rattle.sacn_source.specs.Rows.{slots_of, dark}
use Rattle.sacn_source.specs.Table.{Order, Add, SetLevels, SetPriority, End, EndAll, answer, unless}
use Rattle.sacn_source.specs.Source.{Source, new_source, at, due, after_poll, after_order}

-- what a source did: it accepted an order, or it gave a datagram at its moment in use
pub data Deed : Type 0 where
  Accepted : Order → Deed
  Gave : ℕ → Datagram → Deed

-- a life of a source: who sends, for how many universes there is room, and the number of the first packet on each
pub record Life : Type 0 where
  pub sender : Sender
  pub room : ℕ
  pub first : ℕ

-- ---- what the list says of one universe

-- the packets sent on it
abbrev pub packets : ℕ → List Deed → List Sent
packets u [] = []
packets u (Gave t (Packet d) ∷ ds) = on_universe u t d (packets u ds)
packets u (Gave t (Paged p) ∷ ds) = packets u ds
packets u (Accepted o ∷ ds) = packets u ds

-- the levels that were handed in last; before that all are 0
abbrev pub levels_by : ℕ → List Deed → List ℕ
levels_by u [] = dark
levels_by u (Accepted (SetLevels v levels) ∷ ds) = if u == v then slots_of levels else levels_by u ds
levels_by u (Accepted (Add v) ∷ ds) = levels_by u ds
levels_by u (Accepted (SetPriority v p) ∷ ds) = levels_by u ds
levels_by u (Accepted (End v) ∷ ds) = levels_by u ds
levels_by u (Accepted EndAll ∷ ds) = levels_by u ds
levels_by u (Gave t d ∷ ds) = levels_by u ds

-- the priority that was handed in last; before that the sender's
abbrev pub priority_by : Life → ℕ → List Deed → ℕ
priority_by life u [] = life.sender.priority
priority_by life u (Accepted (SetPriority v p) ∷ ds) = if u == v then p else priority_by life u ds
priority_by life u (Accepted (Add v) ∷ ds) = priority_by life u ds
priority_by life u (Accepted (SetLevels v levels) ∷ ds) = priority_by life u ds
priority_by life u (Accepted (End v) ∷ ds) = priority_by life u ds
priority_by life u (Accepted EndAll ∷ ds) = priority_by life u ds
priority_by life u (Gave t d ∷ ds) = priority_by life u ds

-- it was ended since it was added last
abbrev pub is_ended : ℕ → List Deed → Bool
is_ended u [] = false
is_ended u (Accepted (Add v) ∷ ds) = if u == v then false else is_ended u ds
is_ended u (Accepted (End v) ∷ ds) = if u == v then true else is_ended u ds
is_ended u (Accepted EndAll ∷ ds) = true
is_ended u (Accepted (SetLevels v levels) ∷ ds) = is_ended u ds
is_ended u (Accepted (SetPriority v p) ∷ ds) = is_ended u ds
is_ended u (Gave t d ∷ ds) = is_ended u ds

abbrev pub kept_if : Bool → List Sent → List Sent
kept_if b ss = if b then ss else []

-- the packets sent on it since it was added, was ended, or got another priority while it ran
abbrev pub packets_since : Life → ℕ → List Deed → List Sent
packets_since life u [] = []
packets_since life u (Gave t (Packet d) ∷ ds) = on_universe u t d (packets_since life u ds)
packets_since life u (Gave t (Paged p) ∷ ds) = packets_since life u ds
packets_since life u (Accepted (Add v) ∷ ds) = if u == v then [] else packets_since life u ds
packets_since life u (Accepted (End v) ∷ ds) = if u == v then [] else packets_since life u ds
packets_since life u (Accepted EndAll ∷ ds) = kept_if (is_ended u ds) (packets_since life u ds)
packets_since life u (Accepted (SetLevels v levels) ∷ ds) = packets_since life u ds
packets_since life u (Accepted (SetPriority v p) ∷ ds) =
    if u == v then kept_if (priority_by life u ds == p || is_ended u ds) (packets_since life u ds) else packets_since life u ds

-- Ending until three terminations were sent since it was ended, then Stopped
unfoldable pub mode : Life → ℕ → List Deed → Mode
mode life u ds = mode_by (is_ended u ds) (terminations (packets_since life u ds))

-- it is due at t
unfoldable pub universe_due : Life → ℕ → List Deed → ℕ → Bool
universe_due life t ds u = due_in (mode life u ds) t (latest (packets u ds)) (levels_by u ds) (packets_since life u ds)

-- the number of its next packet
abbrev pub number_by : ℕ → ℕ → List Deed → ℕ
number_by first u ds = (first + length (packets u ds)) % 256

-- its next packet
unfoldable pub packet_by : Life → List Deed → ℕ → Data
packet_by life ds u = record {
  cid = life.sender.cid;
  name = life.sender.name;
  priority = priority_by life u ds;
  number = number_by life.first u ds;
  preview = false;
  terminated = is_end (mode life u ds);
  universe = u;
  start = 0;
  slots = levels_by u ds;
}

-- ---- what the list says of all

abbrev pub with_number : ℕ → List ℕ → List ℕ
with_number u [] = u ∷ []
with_number u (v ∷ vs) = if u == v then v ∷ vs else (if nat_lt u v then u ∷ v ∷ vs else v ∷ with_number u vs)

-- the universes that were added, by rising number
abbrev pub universes : List Deed → List ℕ
universes [] = []
universes (Accepted (Add u) ∷ ds) = with_number u (universes ds)
universes (Accepted (SetLevels u levels) ∷ ds) = universes ds
universes (Accepted (SetPriority u p) ∷ ds) = universes ds
universes (Accepted (End u) ∷ ds) = universes ds
universes (Accepted EndAll ∷ ds) = universes ds
universes (Gave t d ∷ ds) = universes ds

-- those that are not stopped
unfoldable pub standing_by : Life → List Deed → List ℕ
standing_by life ds = filter (λ u. not (is_stop (mode life u ds))) (universes ds)

-- the list of the latest discovery cycle: the universes that were not stopped at its page 0
abbrev pub list_by : Life → List Deed → List ℕ
list_by life [] = []
list_by life (Gave t (Paged p) ∷ ds) = if p.page == 0 then standing_by life ds else list_by life ds
list_by life (Gave t (Packet d) ∷ ds) = list_by life ds
list_by life (Accepted o ∷ ds) = list_by life ds

-- the moment of the latest cycle's page 0, and the page that comes next
abbrev pub cycle_by : List Deed → Option Begun
cycle_by [] = None
cycle_by (Gave t (Paged p) ∷ ds) = paged t p (cycle_by ds)
cycle_by (Gave t (Packet d) ∷ ds) = cycle_by ds
cycle_by (Accepted o ∷ ds) = cycle_by ds

abbrev pub due_with : Life → ℕ → List Deed → Option ℕ → Option Datagram
due_with life t ds (Some u) = Some (Packet (packet_by life ds u))
due_with life t ds None = option_map Paged (page_by t (standing_by life ds) (list_by life ds) (cycle_by ds))

-- the datagram that is due at t: that of the least-numbered due universe, else a page
unfoldable pub due_by_list : Life → ℕ → List Deed → Option Datagram
due_by_list life t ds = due_with life t ds (find (universe_due life t ds) (universes ds))

-- ---- answers

abbrev pub end_in : Mode → Result (Unit {0}) SourceFault
end_in Runs = Ok tt
end_in Ends = Err fault.Ending
end_in Stops = Err fault.Stopped

abbrev pub add_in : Mode → Result (Unit {0}) SourceFault
add_in Runs = Err fault.Running
add_in Ends = Err fault.Ending
add_in Stops = Ok tt

abbrev pub if_there : Option ℕ → Result (Unit {0}) SourceFault → Result (Unit {0}) SourceFault
if_there None r = Err fault.NoUniverse
if_there (Some u) r = r

abbrev pub add_or : Option ℕ → Result (Unit {0}) SourceFault → Result (Unit {0}) SourceFault → Result (Unit {0}) SourceFault
add_or None fresh again = fresh
add_or (Some u) fresh again = again

abbrev pub room_in : Life → List Deed → Result (Unit {0}) SourceFault
room_in life ds = if nat_lt (length (universes ds)) (min life.room CONSOLE_UNIVERSES) then Ok tt else Err fault.Full

-- the universe, where it was added
abbrev pub known : ℕ → List Deed → Option ℕ
known u ds = find (λ v. v == u) (universes ds)

unfoldable pub answer_by_list : Life → Order → List Deed → Result (Unit {0}) SourceFault
answer_by_list life (Add u) ds =
    if nat_le 1 u && nat_le u 63999 then add_or (known u ds) (room_in life ds) (add_in (mode life u ds)) else Err fault.BadUniverse
answer_by_list life (SetLevels u levels) ds = if_there (known u ds) (unless (nat_lt 512 (length levels)) fault.TooMany)
answer_by_list life (SetPriority u p) ds = if_there (known u ds) (unless (nat_lt 200 p) fault.BadPriority)
answer_by_list life (End u) ds = if_there (known u ds) (end_in (mode life u ds))
answer_by_list life EndAll ds = Ok tt

-- ---- what a core keeps of a list of deeds

abbrev pub row_by : Life → List Deed → ℕ → SourceUniverse
row_by life ds u = record {
  line = record { universe = u; state = state_by (is_ended u ds) (packets_since life u ds); sequence_number = number_by life.first u ds; last = latest (packets u ds) };
  levels = levels_by u ds;
  priority = priority_by life u ds;
}

unfoldable pub source_by : Life → ℕ → List Deed → Source
source_by life t ds = record {
  sender = life.sender;
  first = life.first;
  table = record { room = min life.room CONSOLE_UNIVERSES; rows = map (row_by life ds) (universes ds) };
  cycle = cycle_by ds;
  listed = list_by life ds;
  moment = t;
}

-- ---- lists of calls

pub data Call : Type 0 where
  Ask : Order → Call
  Poll : ℕ → Call

pub data Answer : Type 0 where
  Asked : Result (Unit {0}) SourceFault → Answer
  Polled : Option Datagram → Answer

-- by the core's steps
abbrev pub answers : Source → List Call → List Answer
answers c [] = []
answers c (Ask o ∷ calls) = Asked (answer o c.table) ∷ answers (after_order o c) calls
answers c (Poll now ∷ calls) = Polled (due (at now c)) ∷ answers (after_poll now c) calls

abbrev pub with_order : Order → Result (Unit {0}) SourceFault → List Deed → List Deed
with_order o (Ok x) ds = Accepted o ∷ ds
with_order o (Err e) ds = ds

abbrev pub with_datagram : ℕ → Option Datagram → List Deed → List Deed
with_datagram t None ds = ds
with_datagram t (Some d) ds = Gave t d ∷ ds

-- by the list of what was done so far, at the greatest moment handed in
abbrev pub answers_by_list : Life → ℕ → List Deed → List Call → List Answer
answers_by_list life t ds [] = []
answers_by_list life t ds (Ask o ∷ calls) = Asked (answer_by_list life o ds) ∷ answers_by_list life t (with_order o (answer_by_list life o ds) ds) calls
answers_by_list life t ds (Poll now ∷ calls) =
    Polled (due_by_list life (max t now) ds) ∷ answers_by_list life (max t now) (with_datagram (max t now) (due_by_list life (max t now) ds) ds) calls

-- For any list of calls from the start of a life, the core's steps give what the list gives.
abbrev pub StepsAreTheList : Type 0
StepsAreTheList = (life : Life) (calls : List Call) → life.first < 256 → answers (new_source life.sender life.room life.first) calls ≡ answers_by_list life 0 [] calls
