use Rattle.std.proofs.Common.{arith}
use Rattle.sacn_source.proofs.Waking.{nothing_due, exact_first}
use Rattle.sacn_source.specs.Source.{at}
use Rattle.sacn_source.proofs.source.SourceCore.wakes.Goals as goal

pub returns-clause-quiet : goal.returns-clause-quiet
returns-clause-quiet c = λ t before. nothing_due (at t c.args.self.now) (c.row_wake-row.ensures.quiet t (omega (arith, before, c.min.ensures))) (c.page_wake.ensures.quiet t (omega (arith, before, c.min.ensures)))

pub returns-clause-exact : goal.returns-clause-exact
returns-clause-exact c = λ before. exact_first c.args.self.now _ _ _ _ c.min.ensures c.row_wake-row.ensures.exact c.page_wake.ensures.exact before
