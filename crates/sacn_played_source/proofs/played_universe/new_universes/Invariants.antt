use Rattle.std.proofs.Common.{◌≡◌, ◌++◌, map, drop}
use Rattle.sacn_played_source.specs.Universes.{new_universe}
use Rattle.sacn_played_source.proofs.played_universe.new_universes.Given as goal

-- those so far, then those of the rest, are those of all
abbrev pub invariant-loop-universe : goal.invariant-loop-universe
invariant-loop-universe l = l.list.items ++ map new_universe (drop l.universe-index l.universes) ≡ map new_universe l.universes
