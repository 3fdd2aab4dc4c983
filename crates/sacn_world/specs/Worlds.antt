-- Consoles, nodes, and a network that loses, repeats and delays: what a world answers to events.
use Rattle.std.specs.Prelude.{◌≡◌, ℕ, ◌+◌, ◌%◌, ◌<◌, ◌≤◌, List, [], ◌∷◌, ◌++◌, map, length, count_by, slice_get, slice_set, ◌==◌, ◌&&◌, Bool, true, false, Option, Some, None, Result, Ok, Err}
use Rattle.std.specs.List.{AllByRecursion}
use Rattle.sacn_packets.specs.declared.framing.packet.Packet.{Packet}
use Rattle.sacn_packets.specs.declared.framing.packet.Packet.TheVariants.{DataPacket, PagePacket, SyncPacket}
use Rattle.sacn_packets.specs.PacketReading.{reading_packet}
use Rattle.sacn_discovery.specs.Pages.{page_of_list}
use Rattle.sacn_sources.specs.Packets.{packet_of}
use Rattle.sacn_console.specs.declared.command.Command.{Command}
use Rattle.sacn_console.specs.declared.line.UniverseLine.{UniverseLine}
use Rattle.sacn_console.specs.declared.sender.Sender.{Sender}
use Rattle.sacn_console.specs.Shows.{ShowContent}
use Rattle.sacn_console.specs.Due.{life_of}
use Rattle.sacn_console.specs.Runs.{core_by}
use Rattle.sacn_console.specs.Core as console
use Rattle.sacn_console.specs.Lines as line
use Rattle.sacn_node.specs.declared.answer.NodeTaken.TheVariants.{Discovery, Sync, Refused}
use Rattle.sacn_node.specs.Setup.{Port}
use Rattle.sacn_node.specs.Readings.{Reading}
-- a console: its show, the index of its life and that life's first number, and what its rule asks of this life
pub use Rattle.sacn_world.specs.declared.console.Console.{Console}
use Rattle.sacn_schedule.specs.declared.event.Event.{Event}
use Rattle.sacn_schedule.specs.declared.event.Event.TheVariants.{Order, Poll, Deliver, Look, RestartConsole, RestartNode, Noise}
use Rattle.sacn_world.specs.declared.answer.Answer.{Answer}
use Rattle.sacn_world.specs.declared.answer.Answer.TheVariants as answered
use Rattle.sacn_world.specs.declared.fault.WorldFault.{WorldFault}
use Rattle.sacn_world.specs.declared.fault.WorldFault.TheVariants.{NoConsole, NoNode, NoDatagram, NoiseIsPacket}
use Rattle.sacn_world.specs.Streams.{Sent, at, life_at, is_of, stream_of, place_of, Ordered}
use Rattle.sacn_world.specs.Holdings.{Hold, hold_of, newest, refusal}
use Rattle.std.specs.Option.{option_map}
use Rattle.sacn_sources.specs.Rows.{Row}
use Rattle.sacn_world.specs.RowsOfPlaces.{packet_at, seen}
use Rattle.sacn_world.specs.Nodes.{Holding, Node, node_of, node_reply, node_after, node_at, frame_of, holding_of, HoldOk}

pub record World : Type 0 where
  pub consoles : List Console
  pub sent : List Sent
  pub nodes : List Node

pub record Outcome : Type 0 where
  pub answer : Answer
  pub world : World

-- an event that a world accepts has an answer and leaves a world; another one has a fault
abbrev pub Step : Type 0
Step = Result Outcome WorldFault

abbrev pub with_console : World → ℕ → Console → World
with_console w i c = record { consoles = slice_set w.consoles i c; sent = w.sent; nodes = w.nodes }

abbrev pub with_node : World → ℕ → Node → World
with_node w i n = record { consoles = w.consoles; sent = w.sent; nodes = slice_set w.nodes i n }

-- ---- consoles

abbrev pub with_core : Console → console.Core → Console
with_core c core = record { show = c.show; life = c.life; first = c.first; core = core }

abbrev pub order_step : World → ℕ → ℕ → Command → Option Console → Step
order_step w i m k None = Err NoConsole
order_step w i m k (Some c) =
    Ok (record {
      answer = answered.Ordered (console.answer k (console.at m c.core));
      world = with_console w i (with_core c (console.after_command m k c.core));
    })

-- what a due datagram says
abbrev pub said_by : Sender → line.Datagram → Packet
said_by sender (line.Packet d) = DataPacket d
said_by sender (line.Paged p) = PagePacket (page_of_list p.list p.page sender.cid sender.name)

abbrev pub sent_by : Console → line.Datagram → Sent
sent_by c d = record { source = c.show.cid; life = c.life; first = c.first; packet = said_by c.core.sender d }

abbrev pub with_sent : World → ℕ → Console → Sent → World
with_sent w i c x = record { consoles = slice_set w.consoles i c; sent = w.sent ++ x ∷ []; nodes = w.nodes }

-- the console after a poll
abbrev pub polled : ℕ → Console → Console
polled m c = with_core c (console.after_poll m c.core)

abbrev pub poll_by : World → ℕ → ℕ → Console → Option line.Datagram → Outcome
poll_by w i m c None = record { answer = answered.Idle; world = with_console w i (polled m c) }
poll_by w i m c (Some d) = record { answer = answered.Sent (length w.sent); world = with_sent w i (polled m c) (sent_by c d) }

abbrev pub poll_step : World → ℕ → ℕ → Option Console → Step
poll_step w i m None = Err NoConsole
poll_step w i m (Some c) = Ok (poll_by w i m c (console.due (console.at m c.core)))

-- a life begins: nothing was done in it yet, and its moment is 0
abbrev pub new_life : ShowContent → ℕ → ℕ → Console
new_life show life first = record { show = show; life = life; first = first; core = core_by (life_of show first) 0 [] }

abbrev pub restart_console : World → ℕ → ℕ → Option Console → Step
restart_console w i first None = Err NoConsole
restart_console w i first (Some c) = Ok (record { answer = answered.Restarted; world = with_console w i (new_life c.show (c.life + 1) first) })

-- ---- nodes

-- place q of the stream of s and u comes to node n, which has number i
abbrev pub come : World → ℕ → ℕ → Node → List ℕ → ℕ → ℕ → Option WorldFault → Step
come w i m n s u q (Some fault) = Err fault
come w i m n s u q None =
    Ok (record { answer = answered.Taken (node_reply w.sent s u q m n); world = with_node w i (node_after w.sent s u q m n) })

abbrev pub arrive : World → ℕ → ℕ → ℕ → Node → List ℕ → Packet → Step
arrive w k i m n s (DataPacket d) =
    let q = place_of s d.universe k w.sent in come w i m n s d.universe q (refusal (stream_of s d.universe w.sent) (newest s d.universe n.delivered) q)
arrive w k i m n s (PagePacket p) = Ok (record { answer = answered.Taken Discovery; world = with_node w i (node_at m n) })
arrive w k i m n s SyncPacket = Ok (record { answer = answered.Taken Sync; world = with_node w i (node_at m n) })

abbrev pub deliver_step : World → ℕ → ℕ → ℕ → Option Node → Option Sent → Step
deliver_step w k i m None o = Err NoNode
deliver_step w k i m (Some n) None = Err NoDatagram
deliver_step w k i m (Some n) (Some x) = arrive w k i m n x.source x.packet

-- the answer to a look: a frame, where the node has the port
abbrev pub answer_to_look : Option (List ℕ) → Answer
answer_to_look None = answered.NoSuchPort
answer_to_look (Some frame) = answered.Shown frame

abbrev pub look_step : World → ℕ → ℕ → ℕ → Option Node → Step
look_step w i port m None = Err NoNode
look_step w i port m (Some n) = Ok (record { answer = answer_to_look (frame_of w.sent port (node_at m n)); world = with_node w i (node_at m n) })

-- octets that are no packet
abbrev pub hear_noise : World → ℕ → ℕ → Node → Reading → Step
hear_noise w i m n (Ok packet) = Err NoiseIsPacket
hear_noise w i m n (Err fault) = Ok (record { answer = answered.Taken (Refused fault); world = with_node w i (node_at m n) })

abbrev pub noise_step : World → ℕ → ℕ → Reading → Option Node → Step
noise_step w i m reading None = Err NoNode
noise_step w i m reading (Some n) = hear_noise w i m n reading

abbrev pub restart_node : World → ℕ → Option Node → Step
restart_node w i None = Err NoNode
restart_node w i (Some n) = Ok (record { answer = answered.Restarted; world = with_node w i (node_of n.ports) })

-- ---- one event, and lists of them

unfoldable pub step : World → Event → Step
step w (Order i m k) = order_step w i m k (slice_get w.consoles i)
step w (Poll i m) = poll_step w i m (slice_get w.consoles i)
step w (Deliver k i m) = deliver_step w k i m (slice_get w.nodes i) (slice_get w.sent k)
step w (Look i port m) = look_step w i port m (slice_get w.nodes i)
step w (RestartConsole i first) = restart_console w i first (slice_get w.consoles i)
step w (RestartNode i) = restart_node w i (slice_get w.nodes i)
step w (Noise i m octets) = noise_step w i m (reading_packet octets.items) (slice_get w.nodes i)

-- a refused event leaves the world as it was
abbrev pub left_by : World → Step → World
left_by w (Ok o) = o.world
left_by w (Err fault) = w

-- the world after a list of events
abbrev pub after : World → List Event → World
after w [] = w
after w (e ∷ es) = after (left_by w (step w e)) es

-- ---- a new world: of shows with first numbers, and of nodes with ports

abbrev pub new_console : ShowContent × ℕ → Console
new_console s = new_life s.0 0 s.1

abbrev pub new_world : List (ShowContent × ℕ) → List (List Port) → World
new_world shows setups = record { consoles = map new_console shows; sent = []; nodes = map node_of setups }

-- no two consoles have one CID
abbrev pub Apart : List Console → Type 0
Apart cs = (i j : ℕ) (c d : Console) → slice_get cs i ≡ Some c → slice_get cs j ≡ Some d → c.show.cid ≡ d.show.cid → i ≡ j

-- ---- what is read of a world

abbrev pub place_on : List ℕ → Option Holding → Option Hold
place_on s None = None
place_on s (Some g) = hold_of s g.held

abbrev pub hold_in : List ℕ → ℕ → Option Node → Option Hold
hold_in s u None = None
hold_in s u (Some n) = place_on s (holding_of u n.holdings)

-- what node i holds of a source on a universe
abbrev pub held_at : ℕ → List ℕ → ℕ → World → Option Hold
held_at i s u w = hold_in s u (slice_get w.nodes i)

-- its place, and what the place says
abbrev pub place_at : ℕ → List ℕ → ℕ → World → Option ℕ
place_at i s u w = option_map (λ h. h.place) (held_at i s u w)

abbrev pub row_at : ℕ → List ℕ → ℕ → World → Option Row
row_at i s u w = option_map (seen u w.sent) (held_at i s u w)

-- the event may take memory
abbrev pub takes_memory : Event → Bool
takes_memory (Order i m k) = false
takes_memory (Poll i m) = true
takes_memory (Deliver k i m) = true
takes_memory (Look i port m) = false
takes_memory (RestartConsole i first) = true
takes_memory (RestartNode i) = true
takes_memory (Noise i m octets) = false

-- ---- what holds of each world that can be come to

pub record NodeOk (sent : List Sent) (n : Node) : Type 0 where
  pub within : AllByRecursion (λ d. d.place < length (stream_of d.source d.universe sent)) n.delivered
  pub below : AllByRecursion (λ g. AllByRecursion (HoldOk g.universe n.delivered) g.held) n.holdings

-- a packet of this source, universe and life
abbrev pub is_of_life : List ℕ → ℕ → ℕ → Sent → Bool
is_of_life s u life x = is_of s u x && (x.life == life)

-- a universe's next number: the first of this life, and how many packets of this life were sent there
abbrev pub LineOk : List Sent → Console → UniverseLine → Type 0
LineOk sent c l = l.sequence_number ≡ (c.first + count_by (is_of_life c.show.cid l.universe c.life) sent) % 256

-- a console's life is the latest of its streams, and its numbers are those of its places
pub record ConsoleOk (sent : List Sent) (c : Console) : Type 0 where
  pub latest : (u p : ℕ) → p < length (stream_of c.show.cid u sent) → life_at (stream_of c.show.cid u sent) p ≤ c.life
  pub begun : (u p : ℕ) → p < length (stream_of c.show.cid u sent) → life_at (stream_of c.show.cid u sent) p ≡ c.life →
      (at (stream_of c.show.cid u sent) p).first ≡ c.first
  pub sender : c.core.sender.cid ≡ c.show.cid
  pub lines : AllByRecursion (LineOk sent c) c.core.lines

-- a data packet on the wire is the entry of its stream at its place
abbrev pub IsNumbered : List Sent → ℕ → List ℕ → Packet → Type 0
IsNumbered sent k s (DataPacket d) = packet_of d ≡ packet_at s (stream_of s d.universe sent) (place_of s d.universe k sent)
IsNumbered sent k s (PagePacket p) = Unit {0}
IsNumbered sent k s SyncPacket = Unit {0}

abbrev pub Numbered : List Sent → Type 0
Numbered sent = (k : ℕ) (x : Sent) → slice_get sent k ≡ Some x → IsNumbered sent k x.source x.packet

pub record WorldOk (w : World) : Type 0 where
  pub apart : Apart w.consoles
  pub streams : (s : List ℕ) (u : ℕ) → Ordered (stream_of s u w.sent)
  pub consoles : (i : ℕ) (c : Console) → slice_get w.consoles i ≡ Some c → ConsoleOk w.sent c
  pub numbered : Numbered w.sent
  pub nodes : AllByRecursion (NodeOk w.sent) w.nodes
