use Rattle.sacn_network.proofs.Ending.{EndsOn}
use Rattle.sacn_network.proofs.ledger.Ledger.tell_ends.Given as goal

abbrev pub invariant-loop-self : goal.invariant-loop-self
invariant-loop-self g l = EndsOn {O = g.row.O.Denot} g.O.Observer.Notes l.until l.fn.self l.self l.fn.observer l.observer l.steps l.is_lost

abbrev pub decreases-loop-self : goal.decreases-loop-self
decreases-loop-self g l = l.steps
