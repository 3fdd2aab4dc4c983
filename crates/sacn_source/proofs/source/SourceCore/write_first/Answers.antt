use Rattle.sacn_console.proofs.Changes.{ascending}
use Rattle.sacn_source.proofs.Cores.{core_first, ok_first}
use Rattle.sacn_source.proofs.Waking.{looked_kept}
use Rattle.sacn_source.proofs.source.SourceCore.write_first.Goals as goal

pub write_page-requires-clause-rising : goal.write_page-requires-clause-rising
write_page-requires-clause-rising c = rw (c.as_slice.ensures.value, c.list_standing.ensures.listed) (ascending _ c.list_standing.ensures.rising)

pub invariant_of-self : goal.invariant_of-self
invariant_of-self c = (ok_first _ _ c.self.invariant.0 c.list_standing.ensures.rising c.list_standing.ensures.listed, looked_kept _ _ _ _ c.self.invariant.1)

pub returns-clause-core : goal.returns-clause-core
returns-clause-core c = core_first _ _ _ c.self.view_is c.list_standing.ensures.listed
