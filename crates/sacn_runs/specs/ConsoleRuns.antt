-- A console that runs in its loop is a console of a world.
use Rattle.std.specs.Prelude.{◌≡◌, ℕ, ◌+◌, ◌==◌, is_ok, if◌then◌else◌, List, [], ◌∷◌, ◌++◌, map, filter, length, drop, slice_get, Option, Some, None}
use Rattle.sacn_packets.specs.FramingText.{nothing}
use Rattle.sacn_packets.specs.PacketText.{data_text, page_text, unused}
use Rattle.sacn_packets.specs.declared.framing.packet.Packet.{Packet}
use Rattle.sacn_packets.specs.declared.framing.packet.Packet.TheVariants.{DataPacket, PagePacket, SyncPacket}
use Rattle.sacn_sources.specs.Order.{same}
use Rattle.sacn_console.specs.Runs.{Call, Order, Poll}
use Rattle.sacn_node.specs.Setup.{Port}
use Rattle.sacn_schedule.specs.Cids.{Desk}
use Rattle.sacn_schedule.specs.declared.event.Event.{Event}
use Rattle.sacn_schedule.specs.declared.event.Event.TheVariants as event
use Rattle.sacn_edge.specs.ConsoleSends.{Script, console_sends, core_after, refused_by}
use Rattle.sacn_edge.specs.SendsByList.{run_calls}
use Rattle.sacn_world.specs.declared.answer.Answer.{Answer}
use Rattle.sacn_world.specs.declared.answer.Answer.TheVariants as answered
use Rattle.sacn_world.specs.declared.console.Console.{Console}
use Rattle.sacn_world.specs.Streams.{Sent}
use Rattle.sacn_world.specs.Worlds.{World, new_console, Apart}
use Rattle.sacn_world.specs.Runs.{Ran, ran}
use Rattle.sacn_world.specs.Laws.{reached}

-- ---- what is asked of console i: a command or a poll; None where it starts anew

abbrev pub requests_by : ℕ → Event → List (Option Call)
requests_by i (event.Order j m k) = if j == i then Some (Order m k) ∷ [] else []
requests_by i (event.Poll j m) = if j == i then Some (Poll m) ∷ [] else []
requests_by i (event.Deliver k j m) = []
requests_by i (event.Look j port m) = []
requests_by i (event.RestartConsole j first) = if j == i then None ∷ [] else []
requests_by i (event.RestartNode j) = []
requests_by i (event.Noise j m octets) = []

abbrev pub requests : ℕ → List Event → List (Option Call)
requests i [] = []
requests i (e ∷ es) = requests_by i e ++ requests i es

-- ---- what it sends, and what it refuses

-- the octets of a packet that a console sends
abbrev pub octets_of_packet : Packet → List ℕ
octets_of_packet (DataPacket d) = data_text d nothing
octets_of_packet (PagePacket p) = page_text p unused
octets_of_packet SyncPacket = []

-- of some datagrams the octets of those that the console of this CID sent
abbrev pub octets_from : List ℕ → List Sent → List (List ℕ)
octets_from cid sent = map (λ x. octets_of_packet x.packet) (filter (λ x. same cid x.source) sent)

abbrev pub refused_in : Answer → ℕ
refused_in (answered.Ordered r) = if is_ok r then 0 else 1
refused_in (answered.Sent k) = 0
refused_in answered.Idle = 0
refused_in (answered.Taken t) = 0
refused_in (answered.Shown frame) = 0
refused_in answered.NoSuchPort = 0
refused_in answered.Restarted = 0

-- whether console i refused a command, as a count
abbrev pub refused_with : ℕ → Event → Answer → ℕ
refused_with i (event.Order j m k) a = if j == i then refused_in a else 0
refused_with i (event.Poll j m) a = 0
refused_with i (event.Deliver k j m) a = 0
refused_with i (event.Look j port m) a = 0
refused_with i (event.RestartConsole j first) a = 0
refused_with i (event.RestartNode j) a = 0
refused_with i (event.Noise j m octets) a = 0

-- how many commands console i refused, over events and their answers
abbrev pub refused_over : ℕ → List Event → List Answer → ℕ
refused_over i [] answers = 0
refused_over i (e ∷ es) [] = 0
refused_over i (e ∷ es) (a ∷ answers) = refused_with i e a + refused_over i es answers

-- ---- the law

-- console i of world w, over events that were answered so and left world v, is the console that gave its link what was due over
-- these readings
pub record RunsAsInItsLoop (w v : World) (i : ℕ) (c : Console) (events : List Event) (answers : List Answer) (script : Script) (readings : List ℕ) : Type 0 where
  -- what it sent in the world, octet by octet, is what the loop hands over
  pub sent : octets_from c.show.cid (drop (length w.sent) v.sent) ≡ console_sends c.core script readings
  pub refused : refused_over i events answers ≡ refused_by c.core script readings
  -- and what the world's console then keeps is what the loop leaves
  pub left : (d : Console) → slice_get v.consoles i ≡ Some d → d.core ≡ core_after c.core script readings

-- From any world on, over any events that it accepts, whatever they are to its other consoles and its nodes: where console i is
-- given the commands and polls of a loop's turns, it sends what the loop hands over. Its core may have been used before.
abbrev pub ConsolesRunAsInAWorld : Type 0
ConsolesRunAsInAWorld =
    (shows : List Desk) (setups : List (List Port)) (earlier events : List Event) (run : Ran) (i : ℕ) (c : Console) (script : Script) (readings : List ℕ) →
    Apart (map new_console shows) →
    let w = reached shows setups earlier in
    ran w events ≡ Some run → slice_get w.consoles i ≡ Some c → requests i events ≡ map Some (run_calls script readings) →
    RunsAsInItsLoop w run.world i c events run.answers script readings
