use Rattle.std.proofs.Common.{◌≡◌, None, Some, Option, subst, sym, true, false}
use Rattle.sacn_discovery.specs.Collection.{Known, goes_on}
use Rattle.sacn_discovery.specs.Storage.{HoldsPage}
use Rattle.sacn_discovery.specs.declared.source_pages.Standing.TheVariants.{Kept, Other, Begins}
use Rattle.sacn_discovery.proofs.Stores.{found_in, goes_on_none}
use Rattle.sacn_discovery.proofs.collector.Collector.standing.Goals as goal

pub returns-in-Some-clause-kept : goal.returns-in-Some-clause-kept
returns-in-Some-clause-kept c =
    let there = found_in c.self.inside.sources.entries c.args.cid.now c.args.self.now c.self.inside.moment (Some c.in-Some.heard.now) c.self.invariant.0 c.self.view_is c.in-Some.ensures.value in
    subst (λ (o : Option Known). c.standing.result ≡ Kept → HoldsPage c.args.page.now o) there c.standing.ensures.kept

pub returns-in-Some-clause-other : goal.returns-in-Some-clause-other
returns-in-Some-clause-other c =
    let there = found_in c.self.inside.sources.entries c.args.cid.now c.args.self.now c.self.inside.moment (Some c.in-Some.heard.now) c.self.invariant.0 c.self.view_is c.in-Some.ensures.value in
    subst (λ (o : Option Known). c.standing.result ≡ Other → goes_on c.args.page.now.last o ≡ true) there c.standing.ensures.other

pub returns-in-Some-clause-begins : goal.returns-in-Some-clause-begins
returns-in-Some-clause-begins c =
    let there = found_in c.self.inside.sources.entries c.args.cid.now c.args.self.now c.self.inside.moment (Some c.in-Some.heard.now) c.self.invariant.0 c.self.view_is c.in-Some.ensures.value in
    subst (λ (o : Option Known). c.standing.result ≡ Begins → goes_on c.args.page.now.last o ≡ false) there c.standing.ensures.begins

pub returns-in-None-clause-begins : goal.returns-in-None-clause-begins
returns-in-None-clause-begins c =
    let there = found_in c.self.inside.sources.entries c.args.cid.now c.args.self.now c.self.inside.moment None c.self.invariant.0 c.self.view_is c.in-None.ensures.value in
    λ _. sym (goes_on_none c.args.page.now.last _ there)
