use Rattle.std.proofs.Common.{ap, arith}
use Rattle.sacn_node.specs.Cores.{Node}
use Rattle.sacn_tell.proofs.Waking.{awake_after}
use Rattle.sacn_tell.proofs.stage.Stage.take.Goals as goal

pub invariant_of-self-clause-awake : goal.invariant_of-self-clause-awake
invariant_of-self-clause-awake c =
    awake_after c.args.self.now.wake c.min-self.result c.args.now c.args.reading.now c.args.self.now.core.core c.take-change.new.core.core (omega (arith, c.min-self.ensures))
    (omega (arith, c.min-self.ensures, c.saturating_add.ensures)) (ap (λ (n : Node). n.core) c.take-change.ensures.core) c.args.self.now.awake
