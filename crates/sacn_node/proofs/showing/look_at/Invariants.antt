use Rattle.std.proofs.Common.{◌≡◌, ◌++◌, map, take, drop}
use Rattle.sacn_node.specs.Showings.{port_after}
use Rattle.sacn_node.proofs.showing.look_at.Given as goal

-- the ports so far are looked at, and the rest are as they were
abbrev pub invariant-loop-port : goal.invariant-loop-port
invariant-loop-port l = record {
  core : l.core ≡ l.initial.core;
  ports : l.ports ≡ map (port_after l.initial.core) (take l.port-index l.initial.ports) ++ drop l.port-index l.initial.ports;
}
