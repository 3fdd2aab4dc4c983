-- A console core: what the next datagram is, and what a deed makes of the core.
use Rattle.std.specs.Prelude.{◌≡◌, ℕ, ◌+◌, ◌-◌, ◌*◌, max, Bool, false, not, ◌==◌, nat_lt, nat_le, if◌then◌else◌, List, ◌++◌, map, filter, find, length, drop, Option, Some, None, Result, Ok, Err, ◌<◌, ◌≤◌, slice_index_or}
use Rattle.std.specs.Option.{option_map}
use Rattle.std.specs.List.{AllByRecursion}
use Rattle.sacn_packets.specs.Data.{Data, IsData}
use Rattle.sacn_packets.specs.Page.{IsPage}
use Rattle.sacn_packets.specs.FramingText.{nothing}
use Rattle.sacn_packets.specs.PacketText.{data_text, page_text, unused}
use Rattle.sacn_discovery.specs.Pages.{page_count, page_of_list, numbers_on}
use Rattle.sacn_cues.specs.Playing.{refusal}
use Rattle.sacn_cues.specs.Playing as play
use Rattle.sacn_console.specs.Lights.{Lights, frame, lights_at, player_command, lights_by_command, play_answer}
use Rattle.sacn_packets.specs.Universe.{IsUniverse, IsPriority, Rising}
use Rattle.sacn_console.specs.declared.limits.TheConstants.{CONSOLE_UNIVERSES, DISCOVERY_INTERVAL}
use Rattle.sacn_console.specs.Lines.{Page, Datagram, Packet, Paged, Deed, Accepted, Gave, line_due, line_after, is_ending, is_stopped}
use Rattle.sacn_console.specs.declared.console.DueDatagram.{DueDatagram}
use Rattle.sacn_console.specs.declared.sender.Sender.{Sender}
use Rattle.sacn_console.specs.declared.command.Command.{Command}
use Rattle.sacn_console.specs.declared.command.Command.TheVariants.{EndUniverse, StartUniverse}
use Rattle.sacn_console.specs.declared.command.ConsoleFault.{ConsoleFault}
use Rattle.sacn_console.specs.declared.command.ConsoleFault.TheVariants as fault
use Rattle.sacn_console.specs.declared.line.UniverseLine.{UniverseLine}
use Rattle.sacn_console.specs.declared.line.Begun.{Begun}
use Rattle.sacn_console.specs.declared.line.State.{State}
use Rattle.sacn_console.specs.declared.line.State.TheVariants.{Running, Ending, Stopped}

-- what is asked of the earlier commands and datagrams of this life
pub record Core : Type 0 where
  pub sender : Sender
  pub lines : List UniverseLine
  pub cycle : Option Begun
  pub listed : List ℕ
  pub lights : Lights
  pub moment : ℕ

-- ---- datagrams

-- the octets of a data packet
unfoldable pub packet_text : Data → List ℕ
packet_text d = data_text d nothing

abbrev pub text : Sender → Datagram → List ℕ
text sender (Packet d) = packet_text d
text sender (Paged p) = page_text (page_of_list p.list p.page sender.cid sender.name) unused

abbrev pub size : Datagram → ℕ
size (Packet d) = 126 + length d.slots
size (Paged p) = 120 + 2 * length (numbers_on p.list p.page)

-- the universe of a data packet; a page has none
abbrev pub universe_of : Datagram → Option ℕ
universe_of (Packet d) = Some d.universe
universe_of (Paged p) = None

-- what is said of a datagram beside its octets
abbrev pub due_datagram : Datagram → DueDatagram
due_datagram d = record { len = size d; universe = universe_of d }

-- what is said of a page of so many octets
abbrev pub page_of_length : ℕ → DueDatagram
page_of_length len = record { len = len; universe = None }

-- the octets after a poll: the datagram at the front, the others as they were
abbrev pub over : Sender → Option Datagram → List ℕ → List ℕ
over sender None out = out
over sender (Some d) out = text sender d ++ drop (size d) out

-- ---- what is due

unfoldable pub standing : List UniverseLine → List ℕ
standing lines = map (λ l. l.universe) (filter (λ l. not (is_stopped l.state)) lines)

-- the next page at t of a cycle that began, or the first of a new one; `all` is what a new one lists
abbrev pub page_by : ℕ → List ℕ → List ℕ → Option Begun → Option Page
page_by t all listed None = Some (record { list = all; page = 0 })
page_by t all listed (Some b) =
    if nat_lt b.next (page_count (length listed)) then Some (record { list = listed; page = b.next })
    else (if nat_le DISCOVERY_INTERVAL (t - b.moment) then Some (record { list = all; page = 0 }) else None)

unfoldable pub page_due : Core → Option Page
page_due c = page_by c.moment (standing c.lines) c.listed c.cycle

unfoldable pub packet_with : Sender → UniverseLine → List ℕ → Data
packet_with sender l slots = record {
  cid = sender.cid;
  name = sender.name;
  priority = sender.priority;
  number = l.sequence_number;
  preview = false;
  terminated = is_ending l.state;
  universe = l.universe;
  start = 0;
  slots = slots;
}

abbrev pub packet_of : Sender → Lights → ℕ → UniverseLine → Data
packet_of sender p t l = packet_with sender l (frame p l.universe t)

abbrev pub no_line : UniverseLine
no_line = record { universe = 0; state = Stopped; sequence_number = 0; last = None }

abbrev pub line_at : Core → ℕ → UniverseLine
line_at c i = slice_index_or c.lines i no_line

-- the packet of the line at place i
abbrev pub packet_at : Core → ℕ → Data
packet_at c i = packet_of c.sender c.lights c.moment (line_at c i)

unfoldable pub line_found : Core → Option UniverseLine
line_found c = find (line_due c.lights c.moment) c.lines

abbrev pub due_by : Core → Option UniverseLine → Option Datagram
due_by c (Some l) = Some (Packet (packet_of c.sender c.lights c.moment l))
due_by c None = option_map Paged (page_due c)

-- the datagram of a poll at the core's moment
unfoldable pub due : Core → Option Datagram
due c = due_by c (line_found c)

-- what reading finds in the datagram can be said by a packet
abbrev pub IsLawful : Sender → Datagram → Type 0
IsLawful sender (Packet d) = IsData d
IsLawful sender (Paged p) = IsPage (page_of_list p.list p.page sender.cid sender.name)

-- ---- what a deed makes of the core

abbrev pub lights_with : Deed → Lights → Lights
lights_with (Accepted t k) p = lights_by_command t (player_command k) p
lights_with (Gave t d) p = p

abbrev pub paged : ℕ → Page → Option Begun → Option Begun
paged t p b = if p.page == 0 then Some (record { moment = t; next = 1 }) else option_map (λ b. record { moment = b.moment; next = p.page + 1 }) b

abbrev pub cycle_with : Deed → Option Begun → Option Begun
cycle_with (Gave t (Paged p)) b = paged t p b
cycle_with (Gave t (Packet d)) b = b
cycle_with (Accepted t k) b = b

abbrev pub listed_with : Deed → List ℕ → List ℕ
listed_with (Gave t (Paged p)) listed = if p.page == 0 then p.list else listed
listed_with (Gave t (Packet d)) listed = listed
listed_with (Accepted t k) listed = listed

unfoldable pub after : Deed → Core → Core
after d c = record {
  sender = c.sender;
  lines = map (line_after d) c.lines;
  cycle = cycle_with d c.cycle;
  listed = listed_with d c.listed;
  lights = lights_with d c.lights;
  moment = c.moment;
}

-- ---- the steps

abbrev pub at : ℕ → Core → Core
at now c = record { sender = c.sender; lines = c.lines; cycle = c.cycle; listed = c.listed; lights = lights_at now c.lights; moment = max c.moment now }

abbrev pub given : Option Datagram → Core → Core
given None c = c
given (Some d) c = after (Gave c.moment d) c

abbrev pub after_poll : ℕ → Core → Core
after_poll now c = given (due (at now c)) (at now c)

abbrev pub end_answer : State → Result (Unit {0}) ConsoleFault
end_answer (Running r) = Ok tt
end_answer (Ending n) = Err fault.Ending
end_answer Stopped = Err fault.Stopped

abbrev pub start_answer : State → Result (Unit {0}) ConsoleFault
start_answer (Running r) = Err fault.Running
start_answer (Ending n) = Err fault.Ending
start_answer Stopped = Ok tt

abbrev pub for_line : (State → Result (Unit {0}) ConsoleFault) → Option UniverseLine → Result (Unit {0}) ConsoleFault
for_line f None = Err fault.NoUniverse
for_line f (Some l) = f l.state

abbrev pub is_of : ℕ → UniverseLine → Bool
is_of u l = l.universe == u

-- the answer to a command
abbrev pub answer_of : Option play.Command → Core → Result (Unit {0}) ConsoleFault → Result (Unit {0}) ConsoleFault
answer_of None c otherwise = otherwise
answer_of (Some k) c otherwise = play_answer (refusal c.lights.player.cues c.lights.player.current k)

abbrev pub universe_answer : Command → Core → Result (Unit {0}) ConsoleFault
universe_answer (EndUniverse u) c = for_line end_answer (find (is_of u) c.lines)
universe_answer (StartUniverse u) c = for_line start_answer (find (is_of u) c.lines)
universe_answer _ c = Ok tt

unfoldable pub answer : Command → Core → Result (Unit {0}) ConsoleFault
answer k c = answer_of (player_command k) c (universe_answer k c)

abbrev pub taken : Command → Result (Unit {0}) ConsoleFault → Core → Core
taken k (Ok x) c = after (Accepted c.moment k) c
taken k (Err e) c = c

abbrev pub after_command : ℕ → Command → Core → Core
after_command now k c = taken k (answer k (at now c)) (at now c)

-- ---- what holds of each core

abbrev pub universes_of : List UniverseLine → List ℕ
universes_of lines = map (λ l. l.universe) lines

pub record CoreOk (c : Core) : Type 0 where
  pub rising : Rising (universes_of c.lines)
  pub universes : AllByRecursion IsUniverse (universes_of c.lines)
  pub few : length c.lines ≤ CONSOLE_UNIVERSES
  pub listed : Rising c.listed
  pub priority : IsPriority c.sender.priority
  pub clock : c.lights.player.moment ≡ c.moment
  pub later : (b : Begun) → c.cycle ≡ Some b → 0 < b.next
