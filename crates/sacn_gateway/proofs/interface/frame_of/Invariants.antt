use Rattle.std.proofs.Common.{◌≡◌, drop}
use Rattle.sacn_gateway.specs.Interfaces.{frame_in}
use Rattle.sacn_gateway.proofs.interface.frame_of.Given as goal

-- the port is none of those before
abbrev pub invariant-loop-one : goal.invariant-loop-one
invariant-loop-one l = frame_in l.port (drop l.one-index l.ports) ≡ frame_in l.port l.ports
