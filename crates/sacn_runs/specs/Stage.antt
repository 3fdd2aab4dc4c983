-- The stage: what a run of a world says of its desks, of its gateways and of the octets of their interfaces.
use Rattle.std.specs.Prelude.{◌≡◌, ℕ, ◌<◌, ◌≤◌, List, ◌++◌, map, take, drop, length, get_or, slice_get, Contains, Option, Some}
use Rattle.sacn_packets.specs.FramingText.{nothing}
use Rattle.sacn_packets.specs.PacketText.{data_text}
use Rattle.sacn_sources.specs.Merge.{Shown}
use Rattle.sacn_packets.specs.declared.universe.TheConstants.{SLOTS}
use Rattle.sacn_node.specs.Setup.{Port, port_numbers}
use Rattle.sacn_node.specs.Cores as core
use Rattle.sacn_schedule.specs.Cids.{Desk}
use Rattle.sacn_schedule.specs.declared.event.Event.{Event}
use Rattle.sacn_desk.specs.DeskSends.{Round, desk_sends}
use Rattle.sacn_machine.specs.Hearings.{Hearing}
use Rattle.sacn_gateway.specs.GatewayRun.{AreWhole}
use Rattle.sacn_gateway.specs.Interfaces.{AreOffers}
use Rattle.sacn_machine.specs.Widgets.{widget_text}
use Rattle.sacn_machine.specs.declared.device.Offer.{Offer}
use Rattle.sacn_world.specs.declared.answer.Answer.{Answer}
use Rattle.sacn_world.specs.declared.console.Console.{Console}
use Rattle.sacn_world.specs.Streams.{Sent}
use Rattle.sacn_world.specs.Nodes.{Node}
use Rattle.sacn_world.specs.Members.{SameShown}
use Rattle.sacn_world.specs.Worlds.{new_console, new_world, Apart}
use Rattle.sacn_world.specs.Runs.{Ran, ran}
use Rattle.sacn_world.specs.Laws.{reached, ShowTheSame}
use Rattle.sacn_world.specs.Origins.{IsHeldLayer, IsMergedFrame, held_after_expiry}
use Rattle.sacn_world.specs.Looks.{LookOf, sent_at, held_at_look}
use Rattle.sacn_world.specs.Headline.{HoldsOfARun}
use Rattle.sacn_runs.specs.NodeVisits.{visits}
use Rattle.sacn_runs.specs.NodeRuns.{seen_node}
use Rattle.sacn_runs.specs.ConsoleRuns.{requests, octets_from}
use Rattle.sacn_runs.specs.DeskRuns.{desk_calls}
use Rattle.sacn_runs.specs.GatewayRuns.{gateway_visits}

-- events one after another in a list of them, with those before and those later
pub record Part (events : List Event) : Type 0 where
  pub before : List Event
  pub during : List Event
  pub later : List Event
  pub joined : events ≡ before ++ (during ++ later)

-- the level of a slot, from 1 on, in the packet of an interface: behind its four octets of head and the start code
abbrev pub slot_in : List ℕ → ℕ → ℕ
slot_in packet slot = get_or (drop 4 packet) slot 0

module _ (shows : List Desk) (setups : List (List Port)) (events : List Event) (answers : List Answer) where
  -- console i is a desk over a part of the run: it is asked exactly what these rounds ask
  pub record DeskInARun : Type 0 where
    pub part : Part events
    pub i : ℕ
    pub console : Console
    pub is_console : slice_get (reached shows setups part.before).consoles i ≡ Some console
    pub rounds : List Round
    pub asked : requests i part.during ≡ map Some (desk_calls rounds)

  -- node i is a gateway over a part of the run: what comes to it is what comes in these turns
  pub record GatewayInARun : Type 0 where
    pub part : Part events
    pub i : ℕ
    pub node : Node
    pub is_node : slice_get (reached shows setups part.before).nodes i ≡ Some node
    pub senders : List (List ℕ)
    pub turns : List (List Hearing)
    pub whole : AreWhole turns
    pub comes : visits (reached shows setups part.before) i part.during ≡ gateway_visits (port_numbers node.ports) senders turns

  -- the datagrams that the world's consoles send during a part
  abbrev pub sent_during : Part events → List Sent
  sent_during part = drop (length (reached shows setups part.before).sent) (reached shows setups (part.before ++ part.during)).sent

  -- datagram k of the world is one of them
  abbrev pub WasSentDuring : Part events → ℕ → Type 0
  WasSentDuring part k = (length (reached shows setups part.before).sent ≤ k) × (k < length (reached shows setups (part.before ++ part.during)).sent)

  -- the core with which a gateway begins its part
  abbrev pub first_of : GatewayInARun → core.Node
  first_of g = seen_node (reached shows setups g.part.before).sent g.node

  -- a packet, offered at a moment, is that of a frame with which a look of the run at this port of node i at that moment was
  -- answered, and this frame is the merge of what live sources of the world really sent
  pub record IsLit (i port : ℕ) (o : Offer) : Type 0 where
    pub frame : List ℕ
    pub look : LookOf shows setups events answers frame
    pub node : look.i ≡ i
    pub at_port : look.port ≡ port
    pub moment : look.moment ≡ o.now
    pub packet : o.packet ≡ widget_text frame
    pub merged : IsMergedFrame shows (reached shows setups (take look.index events)) i port o.now frame

  -- what a desk hands over is, octet by octet, what its console sends in the world
  abbrev pub DesksSendWhatTheirConsolesSend : Type 0
  DesksSendWhatTheirConsolesSend = (d : DeskInARun) → octets_from d.console.show.cid (sent_during d.part) ≡ desk_sends d.console.core d.rounds

  -- each packet that an interface of a gateway is offered, whatever its device takes, is lit by its own port
  abbrev pub EveryPacketOfAnInterfaceIsLit : Type 0
  EveryPacketOfAnInterfaceIsLit =
      (g : GatewayInARun) (port : ℕ) (latest : Option Offer) (offers : List Offer) (o : Offer) →
      AreOffers (first_of g) g.senders port latest g.turns offers → Contains offers o → IsLit g.i port o

  -- and each live packet that is merged in it, where the console of a desk sent it during the desk's part, is octet by octet a
  -- datagram that the desk handed over
  abbrev pub WhatIsLitWasHandedOver : Type 0
  WhatIsLitWasHandedOver =
      (i port : ℕ) (o : Offer) (a : IsLit i port o) (u : ℕ) (y : Shown)
      (l : IsHeldLayer shows (reached shows setups (take a.look.index events)).sent u (held_after_expiry u o.now a.merged.node) y) (d : DeskInARun) →
      l.hold.source ≡ d.console.show.cid → WasSentDuring d.part l.sent_so.number → Contains (desk_sends d.console.core d.rounds) (data_text l.data_held nothing)

  -- equal holdings light equal slots: in the packets of two interfaces, of one gateway or two
  abbrev pub EqualHoldingsLightEqualSlots : Type 0
  EqualHoldingsLightEqualSlots =
      (i j port other_port : ℕ) (o p : Offer) (a : IsLit i port o) (b : IsLit j other_port p) (u : ℕ) →
      SameShown u (sent_at a.look) (held_at_look u a.look) (sent_at b.look) (held_at_look u b.look) →
      (x y : ℕ) → 0 < x → x ≤ SLOTS → 0 < y → y ≤ SLOTS → ShowTheSame u a.look.port_there.ranges b.look.port_there.ranges x y →
      slot_in o.packet x ≡ slot_in p.packet y

  pub record HoldsOfAStage : Type 0 where
    -- the headline: frames are merges of what was really sent, no held packet gives way to an earlier one, a later one takes
    -- over, equal holdings show equal slots, and the twenty-first in a row is held
    pub world : HoldsOfARun shows setups events answers
    pub desks : DesksSendWhatTheirConsolesSend
    pub lit : EveryPacketOfAnInterfaceIsLit
    pub handed : WhatIsLitWasHandedOver
    pub alike : EqualHoldingsLightEqualSlots

-- Of every world of consoles with CIDs of their own, and every list of events that it accepts
abbrev pub Stage : Type 0
Stage =
    (shows : List Desk) (setups : List (List Port)) (events : List Event) (run : Ran) → Apart (map new_console shows) →
    ran (new_world shows setups) events ≡ Some run → HoldsOfAStage shows setups events run.answers
