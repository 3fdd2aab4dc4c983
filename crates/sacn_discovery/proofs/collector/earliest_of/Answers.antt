use Rattle.std.proofs.Common.{◌≤◌, ℕ, subst, sym, arith}
use Rattle.std.specs.List.{All}
use Rattle.std.proofs.lemmas.List.Elements.{All-cons}
use Rattle.sacn_discovery.specs.Collection.{Known}
use Rattle.sacn_discovery.proofs.Ageing.{IsSince}
use Rattle.sacn_discovery.proofs.collector.earliest_of.Goals as goal

pub loop-heard-preserved : goal.loop-heard-preserved
loop-heard-preserved c = (
  omega (arith, c.min-earliest.ensures, c.loop-heard.invariant.0),
  λ m le rest.
      let here : m ≤ c.in-Some.heard.now.moment = omega (arith, le, c.min-earliest.ensures, c.moment.ensures) in
      c.loop-heard.invariant.1 m (omega (arith, le, c.min-earliest.ensures)) (subst (All (IsSince m)) (sym c.in-Some.ensures.steps) (All-cons (IsSince m) c.in-Some.heard.now c.next.new.self here rest)),
)
