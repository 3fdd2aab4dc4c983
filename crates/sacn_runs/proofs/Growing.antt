-- What was sent in a world stays sent, at its place.
use Rattle.std.proofs.Common.{◌≡◌, ℕ, zero, suc, ◌≤◌, List, [], ◌∷◌, drop, Option, Some, None, Ok, Err, arith, slice_get}
use Rattle.sacn_packets.specs.declared.framing.packet.Packet.{Packet}
use Rattle.sacn_packets.specs.declared.framing.packet.Packet.TheVariants.{DataPacket, PagePacket, SyncPacket}
use Rattle.sacn_packets.specs.PacketReading.{reading_packet}
use Rattle.sacn_console.specs.declared.command.Command.{Command}
use Rattle.sacn_console.specs.Lines as line
use Rattle.sacn_node.specs.Readings.{Reading}
use Rattle.sacn_schedule.specs.declared.event.Event.{Event}
use Rattle.sacn_schedule.specs.declared.event.Event.TheVariants as event
use Rattle.sacn_world.specs.declared.console.Console.{Console}
use Rattle.sacn_world.specs.declared.fault.WorldFault.{WorldFault}
use Rattle.sacn_world.specs.Streams.{Sent}
use Rattle.sacn_world.specs.Nodes.{Node}
use Rattle.sacn_world.specs.Worlds.{World, order_step, sent_by, poll_by, poll_step, restart_console, come, arrive, deliver_step, look_step, hear_noise, noise_step, restart_node, step, left_by, after}
use Rattle.sacn_runs.proofs.Places.{Stands, stands_left}

module _ (w : World) (k : ℕ) (x : Sent) (there : slice_get w.sent k ≡ Some x) where
  abbrev Has : World → Type 0
  Has v = slice_get v.sent k ≡ Some x

  ordered : (j m : ℕ) (c : Command) (oc : Option Console) → Has (left_by w (order_step w j m c oc))
  ordered j m c None = there
  ordered j m c (Some d) = there

  polled_by : (j m : ℕ) (c : Console) (d : Option line.Datagram) → Has (poll_by w j m c d).world
  polled_by j m c None = there
  polled_by j m c (Some d) = stands_left w.sent (sent_by c d ∷ []) k x there

  polled : (j m : ℕ) (oc : Option Console) → Has (left_by w (poll_step w j m oc))
  polled j m None = there
  polled j m (Some c) = polled_by j m c _

  console_anew : (j first : ℕ) (oc : Option Console) → Has (left_by w (restart_console w j first oc))
  console_anew j first None = there
  console_anew j first (Some c) = there

  came : (j m : ℕ) (n : Node) (s : List ℕ) (u q : ℕ) (f : Option WorldFault) → Has (left_by w (come w j m n s u q f))
  came j m n s u q (Some f) = there
  came j m n s u q None = there

  arrived : (i j m : ℕ) (n : Node) (s : List ℕ) (p : Packet) → Has (left_by w (arrive w i j m n s p))
  arrived i j m n s (DataPacket d) = came j m n s d.universe _ _
  arrived i j m n s (PagePacket p) = there
  arrived i j m n s SyncPacket = there

  delivered : (i j m : ℕ) (on : Option Node) (ox : Option Sent) → Has (left_by w (deliver_step w i j m on ox))
  delivered i j m None ox = there
  delivered i j m (Some n) None = there
  delivered i j m (Some n) (Some y) = arrived i j m n y.source y.packet

  looked : (j port m : ℕ) (on : Option Node) → Has (left_by w (look_step w j port m on))
  looked j port m None = there
  looked j port m (Some n) = there

  heard_so : (j m : ℕ) (n : Node) (r : Reading) → Has (left_by w (hear_noise w j m n r))
  heard_so j m n (Ok p) = there
  heard_so j m n (Err f) = there

  noised : (j m : ℕ) (r : Reading) (on : Option Node) → Has (left_by w (noise_step w j m r on))
  noised j m r None = there
  noised j m r (Some n) = heard_so j m n r

  node_anew : (j : ℕ) (on : Option Node) → Has (left_by w (restart_node w j on))
  node_anew j None = there
  node_anew j (Some n) = there

  step_keeps : (e : Event) → Has (left_by w (step w e))
  unfolding step
  step_keeps (event.Order j m c) = ordered j m c (slice_get w.consoles j)
  step_keeps (event.Poll j m) = polled j m (slice_get w.consoles j)
  step_keeps (event.Deliver i j m) = delivered i j m (slice_get w.nodes j) (slice_get w.sent i)
  step_keeps (event.Look j port m) = looked j port m (slice_get w.nodes j)
  step_keeps (event.RestartConsole j first) = console_anew j first (slice_get w.consoles j)
  step_keeps (event.RestartNode j) = node_anew j (slice_get w.nodes j)
  step_keeps (event.Noise j m octets) = noised j m (reading_packet octets.items) (slice_get w.nodes j)

pub sent_stays : (w : World) (k : ℕ) (x : Sent) → slice_get w.sent k ≡ Some x → (es : List Event) → slice_get (after w es).sent k ≡ Some x
sent_stays w k x there [] = there
sent_stays w k x there (e ∷ es) = sent_stays (left_by w (step w e)) k x (step_keeps w k x there e) es

-- behind some elements of a list
pub stands_behind : {X : Type 0} (n : ℕ) (xs : List X) (k : ℕ) (x : X) → n ≤ k → slice_get xs k ≡ Some x → Stands x (drop n xs)
stands_behind zero xs k x le e = (k, e)
stands_behind (suc n) [] k x le e = absurd (cc)
stands_behind (suc n) (y ∷ xs) zero x le e = absurd (omega (arith, le))
stands_behind (suc n) (y ∷ xs) (suc k) x le e = stands_behind n xs k x (omega (arith, le)) e
