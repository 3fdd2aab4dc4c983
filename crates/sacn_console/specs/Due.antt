-- The datagram of a poll, by the list of earlier commands and sent datagrams of this life alone. The lists have the latest first.
use Rattle.std.specs.Prelude.{ℕ, ◌+◌, ◌*◌, ◌/◌, ◌%◌, Bool, true, false, not, ◌&&◌, ◌||◌, ◌==◌, nat_lt, if◌then◌else◌, List, [], ◌∷◌, filter, find, length, Option, Some, None, Result, Ok, Err}
use Rattle.std.specs.Option.{option_map}
use Rattle.sacn_packets.specs.Data.{Data}
use Rattle.sacn_patch.specs.Patch.{Patched, universe_frame}
use Rattle.sacn_cues.specs.Cues.{Cues}
use Rattle.sacn_cues.specs.Playing.{refusal}
use Rattle.sacn_cues.specs.Playing as play
use Rattle.sacn_cues.specs.History.{History, Order, accepted_commands, current_cue, master_in_force, level_read}
use Rattle.sacn_cues.specs.declared.limits.TheConstants.{FULL}
use Rattle.sacn_console.specs.Lights.{player_command, play_answer}
use Rattle.sacn_console.specs.Shows.{ShowContent}
use Rattle.sacn_console.specs.declared.limits.TheConstants.{MIN_GAP, KEEP_ALIVE, REPEATS, TERMINATIONS}
use Rattle.sacn_packets.specs.Naming.{padded}
use Rattle.sacn_console.specs.Lines.{Datagram, Packet, Paged, Deed, Accepted, Gave, same, has_passed}
use Rattle.sacn_console.specs.Core.{page_by}
use Rattle.sacn_console.specs.declared.sender.Sender.{Sender}
use Rattle.sacn_console.specs.declared.line.Begun.{Begun}
use Rattle.sacn_console.specs.declared.command.Command.{Command}
use Rattle.sacn_console.specs.declared.command.Command.TheVariants.{EndUniverse, StartUniverse}
use Rattle.sacn_console.specs.declared.command.ConsoleFault.{ConsoleFault}
use Rattle.sacn_console.specs.declared.command.ConsoleFault.TheVariants as fault

-- a life of a console: what its packets say of their sender, its universes, its cues and patch, and the first number
pub record Life : Type 0 where
  pub sender : Sender
  pub universes : List ℕ
  pub first : ℕ
  pub cues : Cues
  pub patch : Patched

-- the life that a show and a first number begin
abbrev pub life_of : ShowContent → ℕ → Life
life_of s first = record {
  sender = record { cid = s.cid; name = padded s.name; priority = s.priority };
  universes = s.universes;
  first = first;
  cues = s.cues;
  patch = s.patch;
}

-- a data packet, and when it was sent
pub record Sent : Type 0 where
  pub moment : ℕ
  pub data_sent : Data

abbrev pub on_universe : ℕ → ℕ → Data → List Sent → List Sent
on_universe u t d rest = if u == d.universe then record { moment = t; data_sent = d } ∷ rest else rest

-- the packets sent on a universe
abbrev pub packets : ℕ → List Deed → List Sent
packets u [] = []
packets u (Gave t (Packet d) ∷ ds) = on_universe u t d (packets u ds)
packets u (Gave t (Paged p) ∷ ds) = packets u ds
packets u (Accepted t k ∷ ds) = packets u ds

-- an accepted command on a universe: true to end it, false to start it
abbrev pub order_in : ℕ → Command → Option Bool
order_in u (EndUniverse v) = if u == v then Some true else None
order_in u (StartUniverse v) = if u == v then Some false else None
order_in u _ = None

abbrev pub or_else : Option Bool → Bool → Bool
or_else None b = b
or_else (Some x) b = x

-- the latest accepted command on the universe ends it
abbrev pub is_ended : ℕ → List Deed → Bool
is_ended u [] = false
is_ended u (Accepted t k ∷ ds) = or_else (order_in u k) (is_ended u ds)
is_ended u (Gave t d ∷ ds) = is_ended u ds

abbrev pub unless : Option Bool → List Sent → List Sent
unless None xs = xs
unless (Some b) xs = []

-- the packets sent on the universe since the latest accepted command on it
abbrev pub packets_since : ℕ → List Deed → List Sent
packets_since u [] = []
packets_since u (Gave t (Packet d) ∷ ds) = on_universe u t d (packets_since u ds)
packets_since u (Gave t (Paged p) ∷ ds) = packets_since u ds
packets_since u (Accepted t k ∷ ds) = unless (order_in u k) (packets_since u ds)

pub data Mode : Type 0 where
  Runs : Mode
  Ends : Mode
  Stops : Mode

abbrev pub terminations : List Sent → ℕ
terminations [] = 0
terminations (s ∷ ss) = if s.data_sent.terminated then terminations ss + 1 else terminations ss

abbrev pub mode_by : Bool → ℕ → Mode
mode_by false n = Runs
mode_by true n = if nat_lt n TERMINATIONS then Ends else Stops

-- Ending until three terminations were sent since the latest accepted EndUniverse, then Stopped until an accepted StartUniverse
unfoldable pub mode : ℕ → List Deed → Mode
mode u ds = mode_by (is_ended u ds) (terminations (packets_since u ds))

-- of the packets of a run, latest first, how many follow the latest new one: a packet is new where it is the first, or differs from the one before it
abbrev pub follow_new : List Sent → ℕ
follow_new [] = 0
follow_new (a ∷ []) = 0
follow_new (a ∷ b ∷ ss) = if same b.data_sent.slots a.data_sent.slots then follow_new (b ∷ ss) + 1 else 0

-- a packet with these slots would be new
abbrev pub would_be_new : List ℕ → List Sent → Bool
would_be_new f [] = true
would_be_new f (a ∷ ss) = not (same a.data_sent.slots f)

abbrev pub latest : List Sent → Option ℕ
latest [] = None
latest (a ∷ ss) = Some a.moment

abbrev pub due_in : Mode → ℕ → Option ℕ → List ℕ → List Sent → Bool
due_in Runs t last f ss = (has_passed MIN_GAP t last && (would_be_new f ss || nat_lt (follow_new ss) REPEATS)) || has_passed KEEP_ALIVE t last
due_in Ends t last f ss = has_passed MIN_GAP t last
due_in Stops t last f ss = false

abbrev pub with_player : ℕ → Option play.Command → History → History
with_player t None calls = calls
with_player t (Some k) calls = (t, Order k) ∷ calls

-- the commands of the player among the accepted ones, each at its moment in use
abbrev pub player_calls : List Deed → History
player_calls [] = []
player_calls (Accepted t k ∷ ds) = with_player t (player_command k) (player_calls ds)
player_calls (Gave t d ∷ ds) = player_calls ds

-- the level of a channel at t, after the master in force
abbrev pub level_by : Life → ℕ → List Deed → ℕ → ℕ
level_by life t ds channel = level_read life.cues (player_calls ds) t channel * master_in_force (accepted_commands life.cues (player_calls ds)) / FULL

-- the frame of a universe at t
unfoldable pub frame_by : Life → ℕ → ℕ → List Deed → List ℕ
frame_by life u t ds = universe_frame (level_by life t ds) life.patch u

-- the universe is due at t
unfoldable pub universe_due : Life → ℕ → List Deed → ℕ → Bool
universe_due life t ds u = due_in (mode u ds) t (latest (packets u ds)) (frame_by life u t ds) (packets_since u ds)

abbrev pub is_stop : Mode → Bool
is_stop Runs = false
is_stop Ends = false
is_stop Stops = true

abbrev pub is_end : Mode → Bool
is_end Runs = false
is_end Ends = true
is_end Stops = false

-- the number of the next packet on a universe
abbrev pub number_by : ℕ → ℕ → List Deed → ℕ
number_by first u ds = (first + length (packets u ds)) % 256

unfoldable pub packet_by : Life → ℕ → List Deed → ℕ → Data
packet_by life t ds u = record {
  cid = life.sender.cid;
  name = life.sender.name;
  priority = life.sender.priority;
  number = number_by life.first u ds;
  preview = false;
  terminated = is_end (mode u ds);
  universe = u;
  start = 0;
  slots = frame_by life u t ds;
}

-- the universes that are not stopped
unfoldable pub standing_by : List ℕ → List Deed → List ℕ
standing_by us ds = filter (λ u. not (is_stop (mode u ds))) us

-- the list of the latest cycle: the universes that were not stopped at its page 0
abbrev pub list_by : List ℕ → List Deed → List ℕ
list_by us [] = []
list_by us (Gave t (Paged p) ∷ ds) = if p.page == 0 then standing_by us ds else list_by us ds
list_by us (Gave t (Packet d) ∷ ds) = list_by us ds
list_by us (Accepted t k ∷ ds) = list_by us ds

-- the moment of the latest cycle's page 0, and the page that comes next
abbrev pub cycle_by : List Deed → Option Begun
cycle_by [] = None
cycle_by (Gave t (Paged p) ∷ ds) = if p.page == 0 then Some (record { moment = t; next = 1 }) else option_map (λ b. record { moment = b.moment; next = p.page + 1 }) (cycle_by ds)
cycle_by (Gave t (Packet d) ∷ ds) = cycle_by ds
cycle_by (Accepted t k ∷ ds) = cycle_by ds

abbrev pub due_with : Life → ℕ → List Deed → Option ℕ → Option Datagram
due_with life t ds (Some u) = Some (Packet (packet_by life t ds u))
due_with life t ds None = option_map Paged (page_by t (standing_by life.universes ds) (list_by life.universes ds) (cycle_by ds))

-- the datagram that is due at t: that of the least-numbered due universe, else a page
unfoldable pub due_by_list : Life → ℕ → List Deed → Option Datagram
due_by_list life t ds = due_with life t ds (find (universe_due life t ds) life.universes)

-- ---- commands

abbrev pub end_in : Mode → Result (Unit {0}) ConsoleFault
end_in Runs = Ok tt
end_in Ends = Err fault.Ending
end_in Stops = Err fault.Stopped

abbrev pub start_in : Mode → Result (Unit {0}) ConsoleFault
start_in Runs = Err fault.Running
start_in Ends = Err fault.Ending
start_in Stops = Ok tt

abbrev pub if_there : Option ℕ → Result (Unit {0}) ConsoleFault → Result (Unit {0}) ConsoleFault
if_there None r = Err fault.NoUniverse
if_there (Some u) r = r

abbrev pub answer_of : Option play.Command → Life → List Deed → Result (Unit {0}) ConsoleFault → Result (Unit {0}) ConsoleFault
answer_of None life ds otherwise = otherwise
answer_of (Some k) life ds otherwise = play_answer (refusal life.cues (current_cue life.cues (accepted_commands life.cues (player_calls ds))) k)

abbrev pub universe_answer : Command → Life → List Deed → Result (Unit {0}) ConsoleFault
universe_answer (EndUniverse u) life ds = if_there (find (λ v. v == u) life.universes) (end_in (mode u ds))
universe_answer (StartUniverse u) life ds = if_there (find (λ v. v == u) life.universes) (start_in (mode u ds))
universe_answer _ life ds = Ok tt

-- the answer to a command: a command of the player by the cues and the accepted commands, one on a universe by its mode
unfoldable pub answer_by_list : Life → Command → List Deed → Result (Unit {0}) ConsoleFault
answer_by_list life k ds = answer_of (player_command k) life ds (universe_answer k life ds)
