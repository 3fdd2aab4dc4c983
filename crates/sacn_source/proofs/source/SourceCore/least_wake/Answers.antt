use Rattle.std.proofs.Common.{subst}
use Rattle.sacn_source.specs.Source.{Source}
use Rattle.sacn_source.specs.Wakes.{IsFirst, IsReached}
use Rattle.sacn_source.proofs.source.SourceCore.least_wake.Goals as goal

pub returns-then-self-clause-first : goal.returns-then-self-clause-first
returns-then-self-clause-first c = subst (λ (s : Source). IsFirst s.table.rows c.self.inside.looks.least) c.self.view_is c.self.invariant.1.first

pub returns-then-self-clause-reached : goal.returns-then-self-clause-reached
returns-then-self-clause-reached c = subst (λ (s : Source). IsReached s.table.rows c.self.inside.looks.least) c.self.view_is (c.self.invariant.1.exact c.if-self.true)

pub returns-else-self-clause-first : goal.returns-else-self-clause-first
returns-else-self-clause-first c = subst (λ (s : Source). IsFirst s.table.rows c.first_wake.result) c.self.view_is c.first_wake.ensures.first

pub returns-else-self-clause-reached : goal.returns-else-self-clause-reached
returns-else-self-clause-reached c = subst (λ (s : Source). IsReached s.table.rows c.first_wake.result) c.self.view_is c.first_wake.ensures.reached
