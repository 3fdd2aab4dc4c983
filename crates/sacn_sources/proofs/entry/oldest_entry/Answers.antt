use Rattle.std.proofs.Common.{ap, arith}
use Rattle.std.proofs.lemmas.List.{drop_all}
use Rattle.sacn_sources.specs.declared.entry.Entry.{Entry}
use Rattle.sacn_sources.specs.Wakes.{oldest_by}
use Rattle.sacn_sources.proofs.Wakes.{oldest_most}
use Rattle.sacn_sources.proofs.entry.oldest_entry.Goals as goal

pub loop-entry-init : goal.loop-entry-init
loop-entry-init c = record {
  least = omega (arith, oldest_most (λ (e : Entry). e.moment) c.args.entries.now);
  most = omega arith;
}

pub returns : goal.returns
returns c =
    let none = ap (oldest_by (λ (e : Entry). e.moment)) (drop_all c.loop-entry.entry-index c.args.entries.now (omega (arith, c.loop-entry-test.false))) in
    omega (arith, none, c.loop-entry.invariant.least, c.loop-entry.invariant.most)
