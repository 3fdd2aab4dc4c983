use Rattle.std.proofs.Common.{sym}
use Rattle.sacn_console.specs.Core.{at}
use Rattle.sacn_edge.proofs.ConsoleLemmas.{due_small}
use Rattle.sacn_edge.proofs.console_loop.send.Goals as goal

pub hand-requires : goal.hand-requires
hand-requires g c = due_small (at c.args.now c.args.core.now) c.in-Some.len (sym c.in-Some.ensures.answer)
