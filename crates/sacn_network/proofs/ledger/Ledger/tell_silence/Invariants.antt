use Rattle.sacn_network.proofs.Silencing.{LeadsOn}
use Rattle.sacn_network.proofs.ledger.Ledger.tell_silence.Given as goal

abbrev pub invariant-loop-steps : goal.invariant-loop-steps
invariant-loop-steps g l = LeadsOn {O = g.row.O.Denot} g.O.Observer.Notes l.until l.fn.self l.self l.fn.observer l.observer l.steps

abbrev pub decreases-loop-steps : goal.decreases-loop-steps
decreases-loop-steps g l = l.steps
