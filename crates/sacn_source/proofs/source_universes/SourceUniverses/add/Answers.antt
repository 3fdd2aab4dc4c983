use Rattle.std.proofs.Common.{ap, refl}
use Rattle.sacn_source.specs.declared.source_universe.SourceUniverse.{SourceUniverse}
use Rattle.sacn_source.proofs.Orders.{in_range, add_outside, add_known, add_unknown, taken_begun, taken_admitted}
use Rattle.sacn_source.proofs.RowLemmas.{new_ok}
use Rattle.sacn_source.proofs.source_universes.SourceUniverses.add.Goals as goal

pub returns-then-not-is_universe-clause-answer : goal.returns-then-not-is_universe-clause-answer
returns-then-not-is_universe-clause-answer c = rw (add_outside c.args.self.now c.args.universe c.is_universe.result c.is_universe.ensures c.if-not-is_universe.true) refl

pub returns-then-not-is_universe-clause-table : goal.returns-then-not-is_universe-clause-table
returns-then-not-is_universe-clause-table c = rw (add_outside c.args.self.now c.args.universe c.is_universe.result c.is_universe.ensures c.if-not-is_universe.true) refl

pub returns-in-Ok-clause-answer : goal.returns-in-Ok-clause-answer
returns-in-Ok-clause-answer c = rw (add_known c.args.self.now c.args.universe c.is_universe.result c.is_universe.ensures c.in-Ok.place c.if-not-is_universe.false c.in-Ok.ensures.found.1) c.begin.ensures.answer

pub returns-in-Ok-clause-table : goal.returns-in-Ok-clause-table
returns-in-Ok-clause-table c =
    rw (add_known c.args.self.now c.args.universe c.is_universe.result c.is_universe.ensures c.in-Ok.place c.if-not-is_universe.false c.in-Ok.ensures.found.1)
    (taken_begun c.args.first c.args.priority c.args.self.now _ c.args.universe c.in-Ok.place _ c.in-Ok.ensures.rising c.in-Ok.ensures.found.0 c.in-Ok.ensures.found.2 c.begin.ensures.table)

pub admit-requires-clause-gap : goal.admit-requires-clause-gap
admit-requires-clause-gap c = c.in-Err.ensures.absent.2 c.new.result (ap (λ (r : SourceUniverse). r.line.universe) c.new.ensures)

pub admit-requires-clause-row : goal.admit-requires-clause-row
admit-requires-clause-row c = new_ok c.args.first c.args.priority c.args.universe c.new.result c.new.ensures (in_range c.args.universe c.is_universe.result c.is_universe.ensures c.if-not-is_universe.false) c.requires

pub returns-in-Err-clause-answer : goal.returns-in-Err-clause-answer
returns-in-Err-clause-answer c = rw (add_unknown c.args.self.now c.args.universe c.is_universe.result c.is_universe.ensures c.if-not-is_universe.false c.in-Err.ensures.absent.1) c.admit.ensures.answer

pub returns-in-Err-clause-table : goal.returns-in-Err-clause-table
returns-in-Err-clause-table c =
    rw (add_unknown c.args.self.now c.args.universe c.is_universe.result c.is_universe.ensures c.if-not-is_universe.false c.in-Err.ensures.absent.1)
    (taken_admitted c.args.first c.args.priority c.args.self.now _ c.args.universe c.new.result _ c.new.ensures c.admit.ensures.table)
