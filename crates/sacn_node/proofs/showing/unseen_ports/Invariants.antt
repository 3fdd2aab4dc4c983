use Rattle.std.proofs.Common.{◌≡◌, ◌++◌, map, length, drop}
use Rattle.sacn_node.specs.Showings.{unseen}
use Rattle.sacn_node.proofs.showing.unseen_ports.Given as goal

-- what is made, then what is left, is all
abbrev pub invariant-loop-port : goal.invariant-loop-port
invariant-loop-port l = record {
  many : length l.ports.items ≡ l.port-index;
  all : l.ports.items ++ map unseen (drop l.port-index l.port-items) ≡ map unseen l.port-items;
}
