use Rattle.std.proofs.Common.{Some, ap, refl, arith}
use Rattle.sacn_source.proofs.Cores.{page_still, page_over, page_more}
use Rattle.sacn_source.proofs.source.SourceCore.give_later_page.Goals as goal

pub returns-then-begun-page_count-clause-answer : goal.returns-then-begun-page_count-clause-answer
returns-then-begun-page_count-clause-answer c = rw (page_still _ c.args.self.now c.args.begun _ _ c.self.view_is c.requires c.len.ensures.value c.page_count.ensures c.if-begun-page_count.true) (ap Some c.write_next.ensures.answer)

pub returns-then-begun-page_count-clause-octets : goal.returns-then-begun-page_count-clause-octets
returns-then-begun-page_count-clause-octets c = rw (page_still _ c.args.self.now c.args.begun _ _ c.self.view_is c.requires c.len.ensures.value c.page_count.ensures c.if-begun-page_count.true) c.write_next.ensures.octets

pub returns-then-begun-page_count-clause-core : goal.returns-then-begun-page_count-clause-core
returns-then-begun-page_count-clause-core c = rw (page_still _ c.args.self.now c.args.begun _ _ c.self.view_is c.requires c.len.ensures.value c.page_count.ensures c.if-begun-page_count.true) c.write_next.ensures.core

pub returns-then-saturating_sub-lt-DISCOVERY_INTERVAL-clause-answer : goal.returns-then-saturating_sub-lt-DISCOVERY_INTERVAL-clause-answer
returns-then-saturating_sub-lt-DISCOVERY_INTERVAL-clause-answer c = rw (page_over _ c.args.self.now c.args.begun _ _ c.self.view_is c.requires c.len.ensures.value c.page_count.ensures c.if-begun-page_count.false (omega (arith, c.saturating_sub.ensures))) refl

pub returns-then-saturating_sub-lt-DISCOVERY_INTERVAL-clause-octets : goal.returns-then-saturating_sub-lt-DISCOVERY_INTERVAL-clause-octets
returns-then-saturating_sub-lt-DISCOVERY_INTERVAL-clause-octets c = rw (page_over _ c.args.self.now c.args.begun _ _ c.self.view_is c.requires c.len.ensures.value c.page_count.ensures c.if-begun-page_count.false (omega (arith, c.saturating_sub.ensures))) refl

pub returns-then-saturating_sub-lt-DISCOVERY_INTERVAL-clause-core : goal.returns-then-saturating_sub-lt-DISCOVERY_INTERVAL-clause-core
returns-then-saturating_sub-lt-DISCOVERY_INTERVAL-clause-core c = rw (page_over _ c.args.self.now c.args.begun _ _ c.self.view_is c.requires c.len.ensures.value c.page_count.ensures c.if-begun-page_count.false (omega (arith, c.saturating_sub.ensures))) refl

pub returns-clause-answer : goal.returns-clause-answer
returns-clause-answer c = rw (page_more _ c.args.self.now c.args.begun _ _ c.self.view_is c.requires c.len.ensures.value c.page_count.ensures c.if-begun-page_count.false (omega (arith, c.saturating_sub.ensures))) (ap Some c.write_first.ensures.answer)

pub returns-clause-octets : goal.returns-clause-octets
returns-clause-octets c = rw (page_more _ c.args.self.now c.args.begun _ _ c.self.view_is c.requires c.len.ensures.value c.page_count.ensures c.if-begun-page_count.false (omega (arith, c.saturating_sub.ensures))) c.write_first.ensures.octets

pub returns-clause-core : goal.returns-clause-core
returns-clause-core c = rw (page_more _ c.args.self.now c.args.begun _ _ c.self.view_is c.requires c.len.ensures.value c.page_count.ensures c.if-begun-page_count.false (omega (arith, c.saturating_sub.ensures))) c.write_first.ensures.core
