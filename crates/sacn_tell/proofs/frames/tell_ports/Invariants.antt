use Rattle.std.proofs.Common.{take}
use Rattle.sacn_tell.specs.Causes.{reason_of}
use Rattle.sacn_tell.specs.Shows.{ports_told}
use Rattle.sacn_tell.specs.Tellings.{Tells}
use Rattle.sacn_tell.proofs.frames.tell_ports.Given as goal

-- the frames of the ports so far
abbrev pub invariant-loop-port : goal.invariant-loop-port
invariant-loop-port g l = Tells {O = g.row.O.Denot} g.O.Write.contents l.fn.teller l.teller (ports_told l.fn.teller.form l.now (reason_of l.cause) l.moment (take l.port-index l.ports))
