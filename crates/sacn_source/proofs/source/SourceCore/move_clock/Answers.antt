use Rattle.sacn_source.proofs.Cores.{ok_moved}
use Rattle.sacn_source.proofs.Waking.{looked_moved}
use Rattle.sacn_source.proofs.source.SourceCore.move_clock.Goals as goal

pub invariant_of-self : goal.invariant_of-self
invariant_of-self c = (ok_moved _ _ c.self.invariant.0, looked_moved _ _ _ c.args.now _ c.self.invariant.1 c.moved-self-inside.ensures c.max-self-inside.ensures)
