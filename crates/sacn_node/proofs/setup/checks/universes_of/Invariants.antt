use Rattle.std.proofs.Common.{◌≡◌, [], drop}
use Rattle.sacn_node.specs.Setup.{universes_from}
use Rattle.sacn_node.proofs.setup.checks.universes_of.Given as goal

abbrev pub invariant-loop-port : goal.invariant-loop-port
invariant-loop-port l = universes_from [] l.ports ≡ universes_from l.universes.items (drop l.port-index l.ports)
