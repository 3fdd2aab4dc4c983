-- What a datagram may change of a node's frames.
use Rattle.std.specs.Prelude.{ℕ, Bool, true, false, not, ◌||◌, ◌==◌}
use Rattle.sacn_node.specs.Cores.{Core, core_lost}
use Rattle.sacn_node.specs.Readings.{Reading, reply_to}
use Rattle.sacn_node.specs.declared.answer.NodeTaken.{NodeTaken}
use Rattle.sacn_node.specs.declared.answer.NodeTaken.TheVariants.{FromTable, OtherUniverse, Discovery, Sync, Refused}

-- a packet of one of the node's universes
abbrev pub is_for_table : NodeTaken → Bool
is_for_table (FromTable taken) = true
is_for_table OtherUniverse = false
is_for_table Discovery = false
is_for_table Sync = false
is_for_table (Refused fault) = false

-- a source is lost by then, or it is such a packet
abbrev pub may_change_frames : ℕ → Reading → Core → Bool
may_change_frames now reading c = is_for_table (reply_to reading now c) || not (core_lost now c == 0)
