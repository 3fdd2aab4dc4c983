-- Runs of a world: what is kept of it, what each event of a run was answered, and catch-up from any world of a run.
use Rattle.std.specs.Prelude.{◌≡◌, ℕ, ◌+◌, ◌≤◌, List, ◌++◌, map, take, length, slice_get, Some, Ok, ◌↔◌}
use Rattle.sacn_packets.specs.Data.{Data}
use Rattle.sacn_packets.specs.declared.framing.packet.Packet.TheVariants.{DataPacket}
use Rattle.sacn_sources.specs.Rows.{Row}
use Rattle.sacn_node.specs.Setup.{Port}
use Rattle.sacn_world.specs.declared.answer.Answer.{Answer}
use Rattle.sacn_schedule.specs.declared.event.Event.{Event}
use Rattle.sacn_schedule.specs.declared.event.Event.TheVariants.{Deliver}
use Rattle.sacn_world.specs.Streams.{Sent, place_of}
use Rattle.sacn_world.specs.Nodes.{Node, Holding, holding_of}
use Rattle.sacn_schedule.specs.Cids.{Desk, HaveOwnCids}
use Rattle.sacn_world.specs.Worlds.{World, Outcome, step, after, new_console, Apart, WorldOk, place_at, row_at}
use Rattle.sacn_world.specs.Runs.{Ran, ran}
use Rattle.sacn_world.specs.Counts.{count_step, count_run, no_count, enough_in_a_row}
use Rattle.sacn_world.specs.Laws.{reached}

-- Shows with CIDs of their own make consoles with CIDs of their own, and no others do
abbrev pub OwnCidsKeepConsolesApart : Type 0
OwnCidsKeepConsolesApart = (shows : List Desk) → HaveOwnCids shows ↔ Apart (map new_console shows)

-- Of every world that a run can come to: each console has its own CID, lives go forward along a stream, each packet is the entry
-- at its place, and each place held is below its stream's length and at most the newest delivered
abbrev pub ReachedWorldsKeepTheirInvariant : Type 0
ReachedWorldsKeepTheirInvariant = (shows : List Desk) (setups : List (List Port)) (events : List Event) → Apart (map new_console shows) →
    WorldOk (reached shows setups events)

-- event `e` of a run was answered `a`: as the step at the world after the events before it, which leaves the world after one more
pub record AnsweredAt (w : World) (events : List Event) (answers : List Answer) (i : ℕ) (e : Event) : Type 0 where
  pub answer : Answer
  pub is_answer : slice_get answers i ≡ Some answer
  pub stepped : step (after w (take i events)) e ≡ Ok (record { answer = answer; world = after w (take (i + 1) events) })

-- Each event of an accepted run has one answer, which is that of the step at the world after the events before it
pub record RunsAnswerStepByStep : Type 0 where
  pub each : (w : World) (events : List Event) (r : Ran) (i : ℕ) (e : Event) → ran w events ≡ Some r → slice_get events i ≡ Some e →
      AnsweredAt w events r.answers i e
  pub count : (w : World) (events : List Event) (r : Ran) → ran w events ≡ Some r → length r.answers ≡ length events

-- The world after joined lists is the world after one and then the other
abbrev pub ListsOfEventsJoin : Type 0
ListsOfEventsJoin = (w : World) (es fs : List Event) → after w (es ++ fs) ≡ after (after w es) fs

-- what a node holds of a source on a universe is the live packet of this place, with its priority and levels
pub record HoldsLive (w : World) (i : ℕ) (s : List ℕ) (u q : ℕ) (d : Data) : Type 0 where
  pub place : place_at i s u w ≡ Some q
  pub row : Row
  pub held : row_at i s u w ≡ Some row
  pub live : row.shown ≡ Some (record { priority = d.priority; levels = d.slots })

-- From any world of a run on: where a delivery makes twenty-one live packets of one life come one after another, or more, the
-- node then holds its place, live, with that packet's priority and levels
abbrev pub TwentyOneInARowAreHeld : Type 0
TwentyOneInARowAreHeld =
    (shows : List Desk) (setups : List (List Port)) (before since : List Event) (i k m : ℕ) (n : Node) (g : Holding) (x : Sent) (d : Data) (o : Outcome) →
    Apart (map new_console shows) →
    let w = reached shows setups before in
    let v = after w since in
    slice_get v.nodes i ≡ Some n → slice_get v.sent k ≡ Some x → x.packet ≡ DataPacket d → holding_of d.universe n.holdings ≡ Some g →
    step v (Deliver k i m) ≡ Ok o →
    enough_in_a_row ≤ (count_step v i x.source d.universe (Deliver k i m) (count_run w i x.source d.universe since no_count)).count →
    HoldsLive o.world i x.source d.universe (place_of x.source d.universe k v.sent) d
