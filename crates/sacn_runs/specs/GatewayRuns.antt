-- A gateway that runs is a node of a world. Lists of turns, hearings and offers have the latest first; lists of visits and looks the first.
use Rattle.std.specs.Prelude.{◌≡◌, ℕ, ◌==◌, if◌then◌else◌, List, [], ◌∷◌, ◌++◌, map, slice_get, Contains, Option, Some}
use Rattle.sacn_node.specs.Setup.{Port, port_numbers}
use Rattle.sacn_node.specs.Cores as core
use Rattle.sacn_schedule.specs.Cids.{Desk}
use Rattle.sacn_schedule.specs.declared.event.Event.{Event}
use Rattle.sacn_schedule.specs.declared.event.Event.TheVariants.{Order, Poll, Deliver, Look, RestartConsole, RestartNode, Noise}
use Rattle.sacn_edge.specs.NodeText.{Turn, text_of}
use Rattle.sacn_machine.specs.Hearings.{Hearing}
use Rattle.sacn_gateway.specs.GatewayTurns.{turns_of}
use Rattle.sacn_gateway.specs.GatewayText.{gateway_after, gateway_lines, gateway_text}
use Rattle.sacn_gateway.specs.GatewayRun.{AreWhole, latest_reading}
use Rattle.sacn_gateway.specs.PlainGateway.{backlog_at}
use Rattle.sacn_gateway.specs.Interfaces.{AreOffers}
use Rattle.sacn_machine.specs.Widgets.{widget_text}
use Rattle.sacn_machine.specs.declared.device.Offer.{Offer}
use Rattle.sacn_world.specs.declared.answer.Answer.{Answer}
use Rattle.sacn_world.specs.Nodes.{Node}
use Rattle.sacn_world.specs.Origins.{Looked}
use Rattle.sacn_world.specs.Worlds.{World, new_console, Apart}
use Rattle.sacn_world.specs.Runs.{Ran, ran}
use Rattle.sacn_world.specs.Laws.{reached}
use Rattle.sacn_runs.specs.NodeVisits.{Visit, Came, Asked, visits, packet_heard}
use Rattle.sacn_runs.specs.NodeRuns.{frame_told, lines_shown, seen_node}

-- ---- what comes to a gateway

-- what came in a turn, by what of it went to the node
abbrev pub came_in : List Turn → List Visit
came_in [] = []
came_in (t ∷ ts) = came_in ts ++ Came t.now (packet_heard t.heard) ∷ []

-- a turn brings what was heard, each at its reading, and nothing in place of what came late or from another sender; at its
-- latest reading it asks for the frame of each port
abbrev pub gateway_visits : List ℕ → List (List ℕ) → List (List Hearing) → List Visit
gateway_visits numbers senders [] = []
gateway_visits numbers senders (hs ∷ turns) =
    gateway_visits numbers senders turns
    ++ (came_in (turns_of senders (backlog_at turns) hs) ++ map (λ number. Asked (latest_reading hs) number) numbers)

-- ---- what its looks are answered

-- a look at a port: the moment, and the frame that it was answered, or none
pub record PortLook : Type 0 where
  pub port : ℕ
  pub now : ℕ
  pub frame : Option (List ℕ)

abbrev pub port_look : ℕ → ℕ → Option (List ℕ) → PortLook
port_look port now frame = record { port = port; now = now; frame = frame }

abbrev pub looks_by : ℕ → Event → Answer → List PortLook
looks_by i (Order j m k) a = []
looks_by i (Poll j m) a = []
looks_by i (Deliver k j m) a = []
looks_by i (Look j port m) a = if j == i then port_look port m (frame_told a) ∷ [] else []
looks_by i (RestartConsole j first) a = []
looks_by i (RestartNode j) a = []
looks_by i (Noise j m octets) a = []

-- the looks at node i over events and their answers
abbrev pub looks : ℕ → List Event → List Answer → List PortLook
looks i [] answers = []
looks i (e ∷ es) [] = []
looks i (e ∷ es) (a ∷ answers) = looks_by i e a ++ looks i es answers

-- a look that is answered with the frame that this node has at the port
abbrev pub look_of : core.Node → ℕ → ℕ → PortLook
look_of n now port = port_look port now (core.node_frame port n)

-- the looks of a gateway: after each turn, at its latest reading, the frame of each port as the turn leaves it
abbrev pub gateway_looks : core.Node → List (List ℕ) → List (List Hearing) → List PortLook
gateway_looks first senders [] = []
gateway_looks first senders (hs ∷ turns) =
    gateway_looks first senders turns
    ++ map (look_of (gateway_after first senders (hs ∷ turns)).node (latest_reading hs)) (port_numbers first.ports)

-- ---- what its interfaces are offered

-- a packet is that of a frame with which one of the events, a look at this port of node i at the packet's moment, was answered
pub record IsOfALook (events : List Event) (answers : List Answer) (i port : ℕ) (o : Offer) : Type 0 where
  pub index : ℕ
  pub frame : List ℕ
  pub looked : Looked events answers index i port o.now frame
  pub packet : o.packet ≡ widget_text frame

-- ---- the law

-- node i of world w, over events that were answered so and left world v, is the gateway that made these turns
pub record RunsAsAGateway
    (w v : World) (i : ℕ) (n : Node) (events : List Event) (answers : List Answer) (senders : List (List ℕ)) (turns : List (List Hearing)) : Type 0 where
  -- the looks ask for exactly the lines that the gateway writes
  pub lines : lines_shown i n.moment events answers [] ≡ gateway_lines (seen_node w.sent n) senders turns
  pub text : text_of (lines_shown i n.moment events answers []) ≡ gateway_text (seen_node w.sent n) senders turns
  -- they are answered with exactly the frames that the turns leave
  pub frames : looks i events answers ≡ gateway_looks (seen_node w.sent n) senders turns
  -- what the world's node then keeps is what the gateway leaves
  pub left : (l : Node) → slice_get v.nodes i ≡ Some l → seen_node v.sent l ≡ (gateway_after (seen_node w.sent n) senders turns).node
  -- and each packet that an interface is offered is that of a frame with which a look at its port was answered, at the look's moment
  pub offered : (port : ℕ) (latest : Option Offer) (offers : List Offer) (o : Offer) →
      AreOffers (seen_node w.sent n) senders port latest turns offers → Contains offers o → IsOfALook events answers i port o

-- From any world on, over any events that it accepts, whatever they are to its other nodes and its consoles: where what comes to
-- node i is what came in the turns of a gateway, the gateway writes and offers what the node's looks were answered
abbrev pub GatewaysRunAsInAWorld : Type 0
GatewaysRunAsInAWorld =
    (shows : List Desk) (setups : List (List Port)) (earlier events : List Event) (run : Ran) (i : ℕ) (n : Node)
    (senders : List (List ℕ)) (turns : List (List Hearing)) →
    Apart (map new_console shows) →
    let w = reached shows setups earlier in
    ran w events ≡ Some run → slice_get w.nodes i ≡ Some n → AreWhole turns →
    visits w i events ≡ gateway_visits (port_numbers n.ports) senders turns →
    RunsAsAGateway w run.world i n events run.answers senders turns
