use Rattle.sacn_console.proofs.Changes.{core_first, ok_first, standing_rises, ascending}
use Rattle.sacn_console.proofs.console.ConsoleCore.write_first.Goals as goal

pub write_page-requires-clause-rising : goal.write_page-requires-clause-rising
write_page-requires-clause-rising c = rw (c.as_slice.ensures.value, c.list_standing.ensures, c.deref.ensures.value) (ascending _ (standing_rises _ c.self.invariant.core.rising))

pub invariant_of-self : goal.invariant_of-self
invariant_of-self c = record { core = ok_first _ _ _ c.self.invariant.core c.list_standing.ensures c.deref.ensures.value; wakes_ok = c.self.invariant.wakes_ok }

pub returns-clause-core : goal.returns-clause-core
returns-clause-core c = core_first _ _ _ _ c.self.view_is c.list_standing.ensures c.deref.ensures.value
