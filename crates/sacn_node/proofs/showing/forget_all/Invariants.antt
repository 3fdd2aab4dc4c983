use Rattle.std.proofs.Common.{◌≡◌, ◌++◌, None, map, take, drop}
use Rattle.sacn_node.specs.Showings.{with_found}
use Rattle.sacn_node.proofs.showing.forget_all.Given as goal

-- the ports so far have no new frame, and the rest are as they were
abbrev pub invariant-loop-port : goal.invariant-loop-port
invariant-loop-port l = l.ports ≡ map (λ p. with_found p None) (take l.port-index l.initial.ports) ++ drop l.port-index l.initial.ports
