use Rattle.sacn_gateway.specs.Interfaces.{IsServed}
use Rattle.sacn_gateway.proofs.Pairing.{DoneTo}
use Rattle.sacn_gateway.proofs.interface.serve_interfaces.Given as goal

-- the interfaces so far are served, and the rest are as they were
abbrev pub invariant-loop-interface : goal.invariant-loop-interface
invariant-loop-interface g l = DoneTo (IsServed g.D.Device.told l.now l.ports) l.interface-index l.initial.interfaces l.interfaces
