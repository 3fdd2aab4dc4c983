use Rattle.std.proofs.Common.{ap}
use Rattle.sacn_node.specs.Cores.{Node}
use Rattle.sacn_tell.proofs.Waking.{awake_at}
use Rattle.sacn_tell.proofs.stage.Stage.tick.Goals as goal

pub invariant_of-self-clause-awake : goal.invariant_of-self-clause-awake
invariant_of-self-clause-awake c = awake_at c.args.self.now.wake c.args.now c.args.self.now.core.core c.tick.new.core.core (ap (λ (n : Node). n.core) c.tick.ensures.core) c.args.self.now.awake
