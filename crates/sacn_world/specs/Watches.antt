-- What the world keeps of a node: its core, and of each stream that it was sent the newest place and the place it holds.
use Rattle.std.specs.Prelude.{◌≡◌, ℕ, ◌+◌, nat_lt, nat_le, max, Bool, true, false, ◌&&◌, ◌==◌, if◌then◌else◌, List, [], ◌∷◌, map, find, Option, Some, None}
use Rattle.std.specs.List.{AllByRecursion}
use Rattle.std.specs.Option.{option_map}
use Rattle.sacn_sources.specs.Order.{same}
use Rattle.sacn_sources.specs.Rows.{Row, renews}
use Rattle.sacn_node.specs.declared.answer.NodeTaken.{NodeTaken}
use Rattle.sacn_node.specs.declared.answer.NodeTaken.TheVariants.{FromTable, OtherUniverse, Discovery, Sync, Refused}
use Rattle.sacn_node.specs.Setup.{Port}
use Rattle.sacn_node.specs.Readings.{Reading, reply_to, after_reading}
use Rattle.sacn_node.specs.Cores.{Core, Table}
use Rattle.sacn_node.specs.Cores as numbers
pub use Rattle.sacn_world.specs.declared.mark.Mark.{Mark}
use Rattle.sacn_world.specs.declared.fault.WorldFault.{WorldFault}
use Rattle.sacn_world.specs.declared.fault.WorldFault.TheVariants.{TooFarBehind, OldLife}
use Rattle.sacn_world.specs.declared.limits.TheConstants.{TOO_FAR_BEHIND}
use Rattle.sacn_world.specs.Streams.{Sent, stream_of, life_at}
use Rattle.sacn_packets.specs.Universe.{Rising}
use Rattle.sacn_world.specs.Holdings.{Hold, Delivery, RisingByCid}
use Rattle.sacn_world.specs.Nodes.{Holding, Node, seen_core}

abbrev pub is_mark_of : List ℕ → ℕ → Mark → Bool
is_mark_of s u m = same s m.source && (m.universe == u)

abbrev pub mark_of : List ℕ → ℕ → List Mark → Option Mark
mark_of s u marks = find (is_mark_of s u) marks

-- the reply moves the place that is held
abbrev pub moves : NodeTaken → Bool
moves (FromTable taken) = renews taken
moves OtherUniverse = false
moves Discovery = false
moves Sync = false
moves (Refused fault) = false

-- a mark after the delivery that d is of, where b says whether the node holds it
abbrev pub mark_after : Bool → Mark → Mark → Mark
mark_after b d m = record {
  source = m.source;
  universe = m.universe;
  newest = max d.newest m.newest;
  life = if nat_le m.newest d.newest then d.life else m.life;
  held = if b then d.held else m.held;
}

-- the first of a stream
abbrev pub first_mark : Bool → Mark → Mark
first_mark b d = record { source = d.source; universe = d.universe; newest = d.newest; life = d.life; held = if b then d.held else 0 }

abbrev pub marked : Bool → Mark → List Mark → List Mark
marked b d [] = first_mark b d ∷ []
marked b d (m ∷ ms) = if is_mark_of d.source d.universe m then mark_after b d m ∷ ms else m ∷ marked b d ms

-- why a packet of this life and place may not come, where the mark is that of its stream
abbrev pub mark_refusal : ℕ → ℕ → Option Mark → Option WorldFault
mark_refusal life q None = None
mark_refusal life q (Some m) =
    if (life == m.life) && nat_le (q + TOO_FAR_BEHIND) m.newest then Some TooFarBehind else if nat_lt life m.life then Some OldLife else None

-- what is noted of a packet that came; nothing of a page
abbrev pub marks_after : Bool → Option Mark → List Mark → List Mark
marks_after b None ms = ms
marks_after b (Some d) ms = marked b d ms

-- a node core, and the marks
pub record Watch : Type 0 where
  pub node : numbers.Node
  pub marks : List Mark

abbrev pub with_core : Core → Watch → Watch
with_core core w = record { node = record { ports = w.node.ports; core = core }; marks = w.marks }

abbrev pub new_watch : List Port → Watch
new_watch ports = record { node = numbers.new_node ports; marks = [] }

-- after a datagram of this reading came, of which that is noted
abbrev pub taken_by : Reading → ℕ → Option Mark → Watch → Watch
taken_by r now came w = record {
  node = record { ports = w.node.ports; core = after_reading r now w.node.core };
  marks = marks_after (moves (reply_to r now w.node.core)) came w.marks;
}

-- ---- the node by places

abbrev pub held_place : Option Mark → ℕ
held_place None = 0
held_place (Some m) = m.held

abbrev pub hold_from : List Mark → ℕ → Row → Hold
hold_from marks u r = record { source = r.source; place = held_place (mark_of r.source u marks); moment = r.moment }

abbrev pub holding_from : List Mark → Table → Holding
holding_from marks g = record { universe = g.universe; held = map (hold_from marks g.universe) g.rows }

abbrev pub delivery_of : Mark → Delivery
delivery_of m = record { source = m.source; universe = m.universe; place = m.newest }

unfoldable pub by_places : List Mark → numbers.Node → Node
by_places marks n = record { ports = n.ports; moment = n.core.moment; holdings = map (holding_from marks) n.core.tables; delivered = map delivery_of marks }

-- a mark has the life of its newest place
abbrev pub MarkOk : List Sent → Mark → Type 0
MarkOk sent m = m.life ≡ life_at (stream_of m.source m.universe sent) m.newest

-- ---- what holds of each node that a world keeps

abbrev pub node_by_places : Watch → Node
node_by_places w = by_places w.marks w.node

pub record WatchOk (sent : List Sent) (w : Watch) : Type 0 where
  pub core : w.node.core ≡ seen_core sent (node_by_places w)
  pub marks : AllByRecursion (MarkOk sent) w.marks
  pub rise : Rising (map (λ g. g.universe) (node_by_places w).holdings)
  pub sorted : AllByRecursion (λ g. RisingByCid g.held) (node_by_places w).holdings

-- the place noted of a source that the core holds
abbrev pub place_noted : ℕ → List ℕ → Watch → Option ℕ
place_noted u s w = option_map (λ r. held_place (mark_of s u w.marks)) (numbers.core_row u s w.node.core)
