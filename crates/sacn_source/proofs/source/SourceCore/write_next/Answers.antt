use Rattle.sacn_console.proofs.Changes.{ascending}
use Rattle.sacn_source.proofs.Cores.{core_next, ok_next}
use Rattle.sacn_source.proofs.Waking.{looked_kept}
use Rattle.sacn_source.proofs.source.SourceCore.write_next.Goals as goal

pub invariant_of-self : goal.invariant_of-self
invariant_of-self c = (ok_next _ c.args.begun c.self.invariant.0, looked_kept _ _ _ _ c.self.invariant.1)

pub returns-clause-core : goal.returns-clause-core
returns-clause-core c = core_next _ c.args.self.now c.args.begun c.self.view_is c.self.invariant.0 c.requires.begun

pub write_page-requires-clause-rising : goal.write_page-requires-clause-rising
write_page-requires-clause-rising c = rw c.as_slice.ensures.value (ascending _ c.self.invariant.0.listed)
