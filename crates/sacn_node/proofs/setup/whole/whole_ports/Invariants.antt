use Rattle.std.proofs.Common.{◌≡◌, ◌+◌, ◌++◌, drop}
use Rattle.sacn_node.specs.declared.limits.TheConstants.{MIN_PORT}
use Rattle.sacn_node.specs.WholeUniverses.{whole_ports}
use Rattle.sacn_node.proofs.setup.whole.whole_ports.Given as goal

abbrev pub invariant-loop-universe : goal.invariant-loop-universe
invariant-loop-universe l =
    (l.number ≡ MIN_PORT + l.universe-index) × (whole_ports MIN_PORT l.universes ≡ l.ports.items ++ whole_ports l.number (drop l.universe-index l.universes))
