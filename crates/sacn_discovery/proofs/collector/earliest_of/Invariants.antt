use Rattle.std.proofs.Common.{◌≤◌, ℕ}
use Rattle.std.specs.List.{All}
use Rattle.std.specs.BTreeMap.{values}
use Rattle.sacn_discovery.specs.Collection.{Known}
use Rattle.sacn_discovery.proofs.collector.earliest_of.Given as goal

abbrev pub invariant-loop-heard : goal.invariant-loop-heard
invariant-loop-heard l = (l.earliest ≤ l.moment) × ((m : ℕ) → m ≤ l.earliest → All (λ (k : Known). m ≤ k.moment) l.heard-iterator → All (λ (k : Known). m ≤ k.moment) (values l.sources))
