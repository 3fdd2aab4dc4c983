-- The headline: what holds of every run of a world of consoles and nodes, whatever was commanded, sent, delivered, lost, repeated
-- and delayed, whatever the clocks read, and whoever started anew.
use Rattle.std.specs.Prelude.{◌≡◌, ◌↔◌, ℕ, ◌+◌, ◌≤◌, List, take, drop, map, slice_get, Some}
use Rattle.sacn_packets.specs.Data.{Data}
use Rattle.sacn_packets.specs.declared.framing.packet.Packet.TheVariants.{DataPacket}
use Rattle.sacn_node.specs.Setup.{Port}
use Rattle.sacn_world.specs.declared.answer.Answer.{Answer}
use Rattle.sacn_schedule.specs.declared.event.Event.{Event}
use Rattle.sacn_schedule.specs.declared.event.Event.TheVariants.{Deliver}
use Rattle.sacn_world.specs.Streams.{Sent, place_of}
use Rattle.sacn_world.specs.Nodes.{Node, Holding, holding_of}
use Rattle.sacn_world.specs.Members.{SameShown}
use Rattle.sacn_schedule.specs.Cids.{Desk}
use Rattle.sacn_world.specs.Worlds.{World, new_console, new_world, Apart, place_at}
use Rattle.sacn_world.specs.Runs.{Ran, ran}
use Rattle.sacn_world.specs.Counts.{count_run, no_count, enough_in_a_row}
use Rattle.sacn_world.specs.Laws.{reached}
use Rattle.sacn_world.specs.Origins.{IsMergedFrame, Looked}
use Rattle.sacn_world.specs.Entries.{Lasts, HoldsFrom, TakesItsPlace, MovesForward}
use Rattle.sacn_world.specs.Looks.{LookOf, sent_at, held_at_look, AgreeOn}
use Rattle.sacn_world.specs.RunLaws.{HoldsLive}
use Rattle.sacn_world.specs.Admissible.{AreAdmissible}

module _ (shows : List Desk) (setups : List (List Port)) (events : List Event) (answers : List Answer) where
  -- the world after the first j events, and the c events from there on
  abbrev pub world_at : ℕ → World
  world_at j = reached shows setups (take j events)

  abbrev pub since : ℕ → ℕ → List Event
  since j c = take c (drop j events)

  -- Every frame that a node outputs is the merge of packets that its live sources really sent
  abbrev pub EveryFrameIsTheMergeOfWhatWasSent : Type 0
  EveryFrameIsTheMergeOfWhatWasSent = (j i port m : ℕ) (frame : List ℕ) → Looked events answers j i port m frame →
      IsMergedFrame shows (world_at j) i port m frame

  -- No held packet gives way to an earlier one: while its entry lasts, what is held of a source is at no earlier place ..
  abbrev pub NoneGivesWayToAnEarlierOne : Type 0
  NoneGivesWayToAnEarlierOne = (j c i : ℕ) (s : List ℕ) (u p : ℕ) → place_at i s u (world_at j) ≡ Some p → Lasts (world_at j) i s u (since j c) →
      HoldsFrom (world_at (j + c)) i s u p

  -- .. and a packet that is answered Held or EndedNow is held from then on, at a later place than what it takes over from
  abbrev pub ALaterOneTakesOver : Type 0
  ALaterOneTakesOver =
      (j k i m : ℕ) (answer : Answer) (x : Sent) (d : Data) → slice_get events j ≡ Some (Deliver k i m) → slice_get answers j ≡ Some answer →
      TakesItsPlace answer →
      slice_get (world_at j).sent k ≡ Some x → x.packet ≡ DataPacket d →
      MovesForward (world_at j) (world_at (j + 1)) i m x.source d.universe (place_of x.source d.universe k (world_at j).sent)

  -- Equal holdings give equal slots: at two looks, of one node or two
  abbrev pub EqualHoldingsShowEqualSlots : Type 0
  EqualHoldingsShowEqualSlots =
      (frame other : List ℕ) (a : LookOf shows setups events answers frame) (b : LookOf shows setups events answers other) (u : ℕ) →
      SameShown u (sent_at a) (held_at_look u a) (sent_at b) (held_at_look u b) → AgreeOn u a.port_there b.port_there frame other

  -- A node that was behind catches up: the twenty-first live packet in a row is held, with its priority and levels
  abbrev pub TheTwentyFirstInARowIsHeld : Type 0
  TheTwentyFirstInARowIsHeld =
      (j c k i m : ℕ) (n : Node) (g : Holding) (x : Sent) (d : Data) → slice_get events (j + c) ≡ Some (Deliver k i m) →
      slice_get (world_at (j + c)).nodes i ≡ Some n → holding_of d.universe n.holdings ≡ Some g → slice_get (world_at (j + c)).sent k ≡ Some x →
      x.packet ≡ DataPacket d →
      enough_in_a_row ≤ (count_run (world_at j) i x.source d.universe (since j (c + 1)) no_count).count →
      HoldsLive (world_at (j + c + 1)) i x.source d.universe (place_of x.source d.universe k (world_at (j + c)).sent) d

  pub record HoldsOfARun : Type 0 where
    pub merged : EveryFrameIsTheMergeOfWhatWasSent
    pub forward : NoneGivesWayToAnEarlierOne
    pub later : ALaterOneTakesOver
    pub equal : EqualHoldingsShowEqualSlots
    pub caught_up : TheTwentyFirstInARowIsHeld

-- Of every world of consoles with CIDs of their own, as `World::new` makes them, and every list of events
pub record Headline : Type 0 where
  -- a world accepts the list exactly where each event names what is there, no packet comes twenty or more sends behind the newest
  -- of its stream and life that was delivered or after one of a later life, and no noise is a packet
  pub accepted : (shows : List Desk) (setups : List (List Port)) (events : List Event) →
      AreAdmissible (new_world shows setups) events ↔ ((run : Ran) × (ran (new_world shows setups) events ≡ Some run))
  -- and then, with the answers that `run` gives
  pub holds : (shows : List Desk) (setups : List (List Port)) (events : List Event) (run : Ran) → Apart (map new_console shows) →
      ran (new_world shows setups) events ≡ Some run → HoldsOfARun shows setups events run.answers
