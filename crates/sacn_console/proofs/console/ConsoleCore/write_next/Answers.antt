use Rattle.sacn_console.proofs.Changes.{core_next, ascending}
use Rattle.sacn_console.proofs.console.ConsoleCore.write_next.Goals as goal

pub returns-clause-core : goal.returns-clause-core
returns-clause-core c = core_next _ _ c.args.begun c.self.view_is c.self.invariant.core c.requires.begun

pub write_page-requires-clause-rising : goal.write_page-requires-clause-rising
write_page-requires-clause-rising c = rw c.as_slice.ensures.value (ascending _ c.self.invariant.core.listed)
