-- A node by places: what it answers, holds and shows.
use Rattle.std.specs.Prelude.{◌≡◌, ℕ, max, ◌≤◌, ◌==◌, if◌then◌else◌, List, [], ◌∷◌, map, find, Option, Some, None}
use Rattle.std.specs.List.{filter_map}
use Rattle.sacn_sources.specs.Merge.{Shown, merge}
use Rattle.sacn_node.specs.declared.answer.NodeTaken.{NodeTaken}
use Rattle.sacn_node.specs.declared.answer.NodeTaken.TheVariants.{FromTable, OtherUniverse}
use Rattle.sacn_node.specs.Setup.{Port, universes}
use Rattle.sacn_node.specs.Ports.{port_of, frame_on}
use Rattle.sacn_node.specs.Cores.{Table, Core}
use Rattle.sacn_world.specs.Streams.{Sent, at, stream_of, is_live, priority, levels}
use Rattle.sacn_world.specs.Holdings.{Hold, Delivery, unexpired, answer, after_delivery, add_delivery, newest}
use Rattle.sacn_world.specs.RowsOfPlaces.{rows_of, shown_by}

-- the holding of one universe
pub record Holding : Type 0 where
  pub universe : ℕ
  pub held : List Hold

-- a node: its ports, its moment in use, what it holds, and the newest places delivered to it
pub record Node : Type 0 where
  pub ports : List Port
  pub moment : ℕ
  pub holdings : List Holding
  pub delivered : List Delivery

-- ---- a new node holds nothing

abbrev pub nothing_held : ℕ → Holding
nothing_held u = record { universe = u; held = [] }

abbrev pub node_of : List Port → Node
node_of ports = record { ports = ports; moment = 0; holdings = map nothing_held (universes ports); delivered = [] }

-- ---- a packet comes

abbrev pub with_unexpired : ℕ → Holding → Holding
with_unexpired t g = record { universe = g.universe; held = unexpired t g.held }

abbrev pub unexpired_all : ℕ → List Holding → List Holding
unexpired_all t gs = map (with_unexpired t) gs

abbrev pub holding_of : ℕ → List Holding → Option Holding
holding_of u gs = find (λ g. g.universe == u) gs

abbrev pub reply_on : List Sent → List ℕ → ℕ → Option Holding → NodeTaken
reply_on st s q None = OtherUniverse
reply_on st s q (Some g) = FromTable (answer st s q g.held)

abbrev pub change : ℕ → (List Hold → List Hold) → List Holding → List Holding
change u f [] = []
change u f (g ∷ gs) = if g.universe == u then record { universe = g.universe; held = f g.held } ∷ gs else g ∷ change u f gs

-- place q of the stream of s and u comes at moment m
abbrev pub node_reply : List Sent → List ℕ → ℕ → ℕ → ℕ → Node → NodeTaken
node_reply sent s u q m n = reply_on (stream_of s u sent) s q (holding_of u (unexpired_all (max n.moment m) n.holdings))

abbrev pub node_after : List Sent → List ℕ → ℕ → ℕ → ℕ → Node → Node
node_after sent s u q m n =
    record {
      ports = n.ports;
      moment = max n.moment m;
      holdings = change u (after_delivery (stream_of s u sent) s q (max n.moment m)) (unexpired_all (max n.moment m) n.holdings);
      delivered = add_delivery (record { source = s; universe = u; place = q }) n.delivered;
    }

-- expiry alone
abbrev pub node_at : ℕ → Node → Node
node_at m n = record { ports = n.ports; moment = max n.moment m; holdings = unexpired_all (max n.moment m) n.holdings; delivered = n.delivered }

-- ---- what is shown

-- what a hold shows: the packet at its place, nothing where that is a termination
abbrev pub shown_of : ℕ → List Sent → Hold → Option Shown
shown_of u sent h = let x = at (stream_of h.source u sent) h.place in shown_by (is_live x) (priority x) (levels x)

-- the merged slots of a universe
abbrev pub slots : ℕ → List Sent → List Hold → List ℕ
slots u sent hs = merge (filter_map (shown_of u sent) hs)

abbrev pub slots_on : List Sent → Option Holding → List ℕ
slots_on sent None = merge []
slots_on sent (Some g) = slots g.universe sent g.held

abbrev pub node_slots : List Sent → Node → ℕ → List ℕ
node_slots sent n u = slots_on sent (holding_of u n.holdings)

-- the frame of a port, none where the node does not have it (E1.11, null start code)
abbrev pub frame_of : List Sent → ℕ → Node → Option (List ℕ)
frame_of sent port n = frame_on (node_slots sent n) (port_of port n.ports)

-- ---- what a node looks like in its core, by eight-bit numbers

abbrev pub seen_table : List Sent → Holding → Table
seen_table sent g = record { universe = g.universe; rows = rows_of g.universe sent g.held }

unfoldable pub seen_core : List Sent → Node → Core
seen_core sent n = record { moment = n.moment; tables = map (seen_table sent) n.holdings }

-- ---- what holds of each node that a world can come to

-- a place that is held is at most the newest delivered one of its stream
pub record HoldOk (u : ℕ) (ds : List Delivery) (h : Hold) : Type 0 where
  pub last : ℕ
  pub is_last : newest h.source u ds ≡ Some last
  pub below : h.place ≤ last
