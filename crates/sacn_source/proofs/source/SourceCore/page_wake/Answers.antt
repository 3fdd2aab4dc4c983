use Rattle.std.proofs.Common.{arith}
use Rattle.sacn_source.proofs.Cores.{pages_begin, pages_go_on, pages_over, pages_again, pages_rest, pages_ahead}
use Rattle.sacn_source.proofs.source.SourceCore.page_wake.Goals as goal

pub returns-in-None-clause-exact : goal.returns-in-None-clause-exact
returns-in-None-clause-exact c lt = pages_begin _ c.args.self.now 0 c.self.view_is c.in-None.is

pub returns-then-begun-page_count-clause-exact : goal.returns-then-begun-page_count-clause-exact
returns-then-begun-page_count-clause-exact c lt = pages_go_on _ c.args.self.now 0 c.in-Some.begun _ _ c.self.view_is c.in-Some.is c.len.ensures.value c.page_count.ensures c.if-begun-page_count.true

pub returns-then-saturating_sub-ge-DISCOVERY_INTERVAL-clause-exact : goal.returns-then-saturating_sub-ge-DISCOVERY_INTERVAL-clause-exact
returns-then-saturating_sub-ge-DISCOVERY_INTERVAL-clause-exact c lt =
    pages_over _ c.args.self.now 0 c.in-Some.begun _ _ c.self.view_is c.in-Some.is c.len.ensures.value c.page_count.ensures c.if-begun-page_count.false (omega (arith, c.saturating_sub.ensures, c.if-saturating_sub-ge-DISCOVERY_INTERVAL.true))

pub returns-else-saturating_sub-ge-DISCOVERY_INTERVAL-clause-quiet : goal.returns-else-saturating_sub-ge-DISCOVERY_INTERVAL-clause-quiet
returns-else-saturating_sub-ge-DISCOVERY_INTERVAL-clause-quiet c = λ t before.
    pages_rest _ c.args.self.now t c.saturating_add.result c.in-Some.begun _ _ c.self.view_is c.in-Some.is c.len.ensures.value c.page_count.ensures c.if-begun-page_count.false (omega (arith, c.saturating_sub.ensures, c.if-saturating_sub-ge-DISCOVERY_INTERVAL.false)) c.saturating_add.ensures before

pub returns-else-saturating_sub-ge-DISCOVERY_INTERVAL-clause-exact : goal.returns-else-saturating_sub-ge-DISCOVERY_INTERVAL-clause-exact
returns-else-saturating_sub-ge-DISCOVERY_INTERVAL-clause-exact c = λ lt.
    pages_again _ c.args.self.now c.saturating_add.result c.in-Some.begun _ _ c.self.view_is c.in-Some.is c.len.ensures.value c.page_count.ensures c.if-begun-page_count.false c.saturating_add.ensures lt

pub returns-else-saturating_sub-ge-DISCOVERY_INTERVAL-clause-ahead : goal.returns-else-saturating_sub-ge-DISCOVERY_INTERVAL-clause-ahead
returns-else-saturating_sub-ge-DISCOVERY_INTERVAL-clause-ahead c = λ some.
    pages_ahead _ c.args.self.now c.saturating_add.result c.in-Some.begun c.self.view_is (omega (arith, c.saturating_sub.ensures, c.if-saturating_sub-ge-DISCOVERY_INTERVAL.false)) c.saturating_add.ensures
