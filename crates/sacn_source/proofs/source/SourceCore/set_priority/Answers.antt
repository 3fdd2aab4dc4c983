use Rattle.sacn_source.proofs.Cores.{ok_given}
use Rattle.sacn_source.proofs.Waking.{looked_anew}
use Rattle.sacn_source.proofs.source.SourceCore.set_priority.Goals as goal

pub invariant_of-self : goal.invariant_of-self
invariant_of-self c = (ok_given _ _ c.self.invariant.0, looked_anew _ _ c.anew-self-inside.ensures)
