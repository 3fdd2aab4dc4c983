use Rattle.std.proofs.Common.{◌≡◌, ◌++◌, map, drop}
use Rattle.sacn_node.specs.Storage.{new_one}
use Rattle.sacn_node.proofs.tables.new_tables.Given as goal

abbrev pub invariant-loop-universe : goal.invariant-loop-universe
invariant-loop-universe l = l.list.items ++ map new_one (drop l.universe-index l.universes) ≡ map new_one l.universes
