use Rattle.sacn_source.proofs.Cores.{core_ended, ok_given}
use Rattle.sacn_source.proofs.Waking.{looked_anew}
use Rattle.sacn_source.proofs.source.SourceCore.end_all.Goals as goal

pub invariant_of-self : goal.invariant_of-self
invariant_of-self c = (ok_given _ _ c.self.invariant.0, looked_anew _ _ c.anew-self-inside.ensures)

pub returns : goal.returns
returns c = core_ended _ c.args.self.now _ c.self.view_is (c.end_all.ensures c.self.inside.first c.self.inside.sender.priority)
