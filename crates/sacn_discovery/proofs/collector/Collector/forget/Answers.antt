use Rattle.std.proofs.Common.{◌≡◌, ℕ, ◌+◌, ◌-◌, ap, ◌∙◌, arith}
use Rattle.std.specs.FinMap.{len}
use Rattle.sacn_discovery.specs.Collection.{State}
use Rattle.sacn_discovery.specs.Storage.{sources_of}
use Rattle.sacn_discovery.proofs.Stores.{expired, fewer}
use Rattle.sacn_discovery.proofs.collector.Collector.forget.Goals as goal

pub overflow_sub-result : goal.overflow_sub-result
overflow_sub-result c =
    let few = fewer c.max-self-inside.result (sources_of c.self.inside.sources.entries) c.sweep.new.self.sources c.sweep.ensures.left in
    omega (arith, few, c.count.ensures, c.count-before.ensures, ap (λ (s : State). len s.sources) c.self.view_is)

pub returns-clause-gone : goal.returns-clause-gone
returns-clause-gone c =
    let few = fewer c.max-self-inside.result (sources_of c.self.inside.sources.entries) c.sweep.new.self.sources c.sweep.ensures.left in
    omega (arith, few, c.count.ensures, c.count-before.ensures, ap (λ (s : State). len s.sources) c.self.view_is)

pub returns-clause-state : goal.returns-clause-state
returns-clause-state c = expired c.sweep.new.self c.args.self.now (sources_of c.self.inside.sources.entries) c.self.inside.moment c.max-self-inside.result c.args.now c.self.view_is c.max-self-inside.ensures c.sweep.ensures.moment c.sweep.ensures.left

difference : (result left before : ℕ) → result + left ≡ before → result ≡ before - left
difference result left before e = omega (arith, e)

pub returns-clause-forgotten : goal.returns-clause-forgotten
returns-clause-forgotten c =
    difference _ (len c.sweep.new.self.sources) (len c.args.self.now.sources) (returns-clause-gone c)
    ∙ ap (λ (s : State). len c.args.self.now.sources - len s.sources) (returns-clause-state c)
