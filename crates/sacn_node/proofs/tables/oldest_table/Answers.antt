use Rattle.std.proofs.Common.{ℕ, ap, arith}
use Rattle.std.proofs.lemmas.List.{drop_all}
use Rattle.sacn_sources.specs.Wakes.{oldest_by, oldest_of}
use Rattle.sacn_sources.proofs.Wakes.{oldest_most}
use Rattle.sacn_node.specs.declared.tables.OneUniverse.{OneUniverse}
use Rattle.sacn_node.proofs.tables.oldest_table.Goals as goal

abbrev moment : OneUniverse → ℕ
moment o = oldest_of o.table.table.rows

pub loop-one-init : goal.loop-one-init
loop-one-init c = record {
  least = omega (arith, oldest_most moment c.args.tables.now);
  most = omega arith;
}

pub returns : goal.returns
returns c =
    let none = ap (oldest_by moment) (drop_all c.loop-one.one-index c.args.tables.now (omega (arith, c.loop-one-test.false))) in
    omega (arith, none, c.loop-one.invariant.least, c.loop-one.invariant.most)
