use Rattle.sacn_network.proofs.Ending.{OutsOn}
use Rattle.sacn_network.proofs.ledger.Ledger.tell_outs.Given as goal

abbrev pub invariant-loop-place : goal.invariant-loop-place
invariant-loop-place g l = OutsOn {O = g.row.O.Denot} g.O.Observer.Notes l.before l.fn.self l.self l.fn.observer l.observer l.count l.place
