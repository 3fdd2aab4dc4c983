use Rattle.std.proofs.Common.{arith}
use Rattle.sacn_console.proofs.WakeCores.{nothing_due, exact_first}
use Rattle.sacn_console.specs.Core.{at}
use Rattle.sacn_console.proofs.console.ConsoleCore.wakes.Goals as goal

pub returns-clause-quiet : goal.returns-clause-quiet
returns-clause-quiet c = λ t before. nothing_due (at t c.args.self.now) (c.line_wake-line.ensures.quiet t (omega (arith, before, c.min.ensures))) (rw c.line_wake-line.ensures.core at (c.page_wake.ensures.quiet t (omega (arith, before, c.min.ensures))))

pub returns-clause-exact : goal.returns-clause-exact
returns-clause-exact c = λ still before. exact_first c.args.self.now _ _ _ _ c.min.ensures (c.line_wake-line.ensures.exact still) (rw c.line_wake-line.ensures.core at c.page_wake.ensures.exact) before
