use Rattle.std.proofs.Common.{◌≡◌, ap, subst, None, Some, IfOk, Option, List, ℕ}
use Rattle.std.specs.Option.{option_map}
use Rattle.sacn_discovery.specs.Collection.{list_for, other_than}
use Rattle.sacn_discovery.proofs.Stores.{found_in}
use Rattle.sacn_discovery.proofs.collector.Collector.other_at.Goals as goal

pub returns-in-Some : goal.returns-in-Some
returns-in-Some c =
    let there = found_in c.self.inside.sources.entries c.args.cid.now c.args.self.now c.self.inside.moment (Some c.in-Some.heard.now) c.self.invariant.0 c.self.view_is c.in-Some.ensures.value in
    subst (λ (x : Option (List ℕ)). IfOk c.other_list.result (λ list. option_map (λ v. v.items) list ≡ other_than c.args.known.now x)) (ap list_for there) c.other_list.ensures

pub returns-in-None : goal.returns-in-None
returns-in-None c = ap (λ x. other_than c.args.known.now (list_for x)) (found_in c.self.inside.sources.entries c.args.cid.now c.args.self.now c.self.inside.moment None c.self.invariant.0 c.self.view_is c.in-None.ensures.value)
