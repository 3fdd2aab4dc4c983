use Rattle.std.proofs.Common.{◌≡◌, ◌++◌, drop}
use Rattle.sacn_node.proofs.ports.copy_ports.Given as goal

abbrev pub invariant-loop-port : goal.invariant-loop-port
invariant-loop-port l = l.copy.items ++ drop l.port-index l.ports ≡ l.ports
