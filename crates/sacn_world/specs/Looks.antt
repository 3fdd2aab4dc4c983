-- Looks at the ports of a run, and when two of them agree.
use Rattle.std.specs.Prelude.{◌≡◌, ◌↔◌, ℕ, ◌<◌, ◌≤◌, List, take, map, get_or, slice_get, Some}
use Rattle.sacn_sources.specs.Merge.{Shown}
use Rattle.sacn_packets.specs.declared.universe.TheConstants.{SLOTS}
use Rattle.sacn_node.specs.Setup.{Port}
use Rattle.sacn_node.specs.Ports.{port_of}
use Rattle.sacn_world.specs.declared.answer.Answer.{Answer}
use Rattle.sacn_schedule.specs.declared.event.Event.{Event}
use Rattle.sacn_world.specs.Streams.{Sent}
use Rattle.sacn_world.specs.Holdings.{Hold}
use Rattle.sacn_world.specs.Nodes.{Node}
use Rattle.sacn_world.specs.Members.{SameShown}
use Rattle.sacn_schedule.specs.Cids.{Desk}
use Rattle.sacn_world.specs.Worlds.{new_console, new_world, Apart}
use Rattle.sacn_world.specs.Runs.{Ran, ran}
use Rattle.sacn_world.specs.Laws.{reached, ShowTheSame}
use Rattle.sacn_world.specs.Origins.{held_after_expiry, IsHeldLayer, IsMergedFrame, Looked}

-- a look of a run that was answered with this frame: event `index`, and the node and the port that were looked at
pub record LookOf (shows : List Desk) (setups : List (List Port)) (events : List Event) (answers : List Answer) (frame : List ℕ) : Type 0 where
  pub index : ℕ
  pub i : ℕ
  pub port : ℕ
  pub moment : ℕ
  pub looked : Looked events answers index i port moment frame
  pub node : Node
  pub is_node : slice_get (reached shows setups (take index events)).nodes i ≡ Some node
  pub port_there : Port
  pub is_port : port_of port node.ports ≡ Some port_there

-- Each frame that a run answered is the merge of exactly the live packets that the node held after expiry, and that were really sent
abbrev pub FramesAreMergesOfWhatWasSent : Type 0
FramesAreMergesOfWhatWasSent =
    (shows : List Desk) (setups : List (List Port)) (events : List Event) (run : Ran) → Apart (map new_console shows) →
    ran (new_world shows setups) events ≡ Some run →
    (j i port m : ℕ) (frame : List ℕ) → Looked events run.answers j i port m frame → IsMergedFrame shows (reached shows setups (take j events)) i port m frame

module _ {shows : List Desk} {setups : List (List Port)} {events : List Event} {answers : List Answer} {frame : List ℕ} where
  -- what had been sent when it was looked, and what the node held on a universe after expiry
  abbrev pub sent_at : LookOf shows setups events answers frame → List Sent
  sent_at a = (reached shows setups (take a.index events)).sent

  abbrev pub held_at_look : ℕ → LookOf shows setups events answers frame → List Hold
  held_at_look u a = held_after_expiry u a.moment a.node

-- the frames agree at any two port slots that ranges fill from the same slot of universe u
abbrev pub AgreeOn : ℕ → Port → Port → List ℕ → List ℕ → Type 0
AgreeOn u p q frame other = (x y : ℕ) → 0 < x → x ≤ SLOTS → 0 < y → y ≤ SLOTS → ShowTheSame u p.ranges q.ranges x y → get_or frame x 0 ≡ get_or other y 0

pub record EqualHoldingsGiveEqualSlots : Type 0 where
  -- two looks of one run, of one node or two, at which the same places of the same sources are shown
  pub one : (shows : List Desk) (setups : List (List Port)) (events : List Event) (run : Ran) → Apart (map new_console shows) →
      ran (new_world shows setups) events ≡ Some run →
      (frame other : List ℕ) (a : LookOf shows setups events run.answers frame) (b : LookOf shows setups events run.answers other) (u : ℕ) →
      SameShown u (sent_at a) (held_at_look u a) (sent_at b) (held_at_look u b) → AgreeOn u a.port_there b.port_there frame other
  -- two looks of two runs, of whatever worlds, at which live packets of the same priorities and levels are held
  pub two : (shows shows_then : List Desk) (setups setups_then : List (List Port)) (events events_then : List Event) (run run_then : Ran) →
      Apart (map new_console shows) → Apart (map new_console shows_then) →
      ran (new_world shows setups) events ≡ Some run → ran (new_world shows_then setups_then) events_then ≡ Some run_then →
      (frame other : List ℕ) (a : LookOf shows setups events run.answers frame) (b : LookOf shows_then setups_then events_then run_then.answers other) (u : ℕ) →
      ((y : Shown) → IsHeldLayer shows (sent_at a) u (held_at_look u a) y ↔ IsHeldLayer shows_then (sent_at b) u (held_at_look u b) y) →
      AgreeOn u a.port_there b.port_there frame other
