use Rattle.sacn_monitor.proofs.Chaining.{IsDown}
use Rattle.sacn_monitor.proofs.register.Register.place_of.Given as goal

abbrev pub invariant-loop-mark : goal.invariant-loop-mark
invariant-loop-mark l = IsDown l.universe l.cid l.mark l.self-inside.streams.items

abbrev pub decreases-loop-mark : goal.decreases-loop-mark
decreases-loop-mark l = l.mark
