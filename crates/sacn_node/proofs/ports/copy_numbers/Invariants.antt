use Rattle.std.proofs.Common.{◌≡◌, ◌++◌, length, drop}
use Rattle.sacn_node.specs.Setup.{port_numbers}
use Rattle.sacn_node.proofs.ports.copy_numbers.Given as goal

abbrev pub invariant-loop-port : goal.invariant-loop-port
invariant-loop-port l = record {
  items : l.numbers.items ++ port_numbers (drop l.port-index l.ports) ≡ port_numbers l.ports;
  counted : length l.numbers.items ≡ l.port-index;
}
