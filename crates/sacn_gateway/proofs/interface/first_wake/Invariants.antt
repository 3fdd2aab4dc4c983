use Rattle.std.proofs.Common.{◌≡◌, drop}
use Rattle.sacn_gateway.specs.Interfaces.{earliest}
use Rattle.sacn_gateway.proofs.interface.first_wake.Given as goal

-- what is left to look at gives what all gives
abbrev pub invariant-loop-interface : goal.invariant-loop-interface
invariant-loop-interface g l = earliest (drop l.interface-index l.interfaces) l.now l.wake ≡ earliest l.interfaces l.now l.fn.wake
