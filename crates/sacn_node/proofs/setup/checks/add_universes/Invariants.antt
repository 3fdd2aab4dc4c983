use Rattle.std.proofs.Common.{◌≡◌, drop}
use Rattle.sacn_node.specs.Setup.{universes_after}
use Rattle.sacn_node.proofs.setup.checks.add_universes.Given as goal

abbrev pub invariant-loop-range : goal.invariant-loop-range
invariant-loop-range l = universes_after l.fn.universes.items l.ranges ≡ universes_after l.universes.items (drop l.range-index l.ranges)
