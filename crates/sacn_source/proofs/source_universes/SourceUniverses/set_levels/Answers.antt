use Rattle.std.proofs.Common.{rules, refl, ◌∙◌}
use Rattle.sacn_source.specs.Rows.{row_showing, slots_of}
use Rattle.sacn_source.proofs.Orders.{unknown, levels_many, levels_few, changed_is}
use Rattle.sacn_source.proofs.source_universes.SourceUniverses.set_levels.Goals as goal

pub returns-in_err-place-clause-answer : goal.returns-in_err-place-clause-answer
returns-in_err-place-clause-answer c = rw (unknown c.args.self.now c.args.universe 0 c.args.levels.now (rw c.in_err-place.ensures.ok_part at c.place_of.ensures.found)).0 (search rules)

pub returns-in_err-place-clause-table : goal.returns-in_err-place-clause-table
returns-in_err-place-clause-table c = λ first p. rw (unknown c.args.self.now c.args.universe 0 c.args.levels.now (rw c.in_err-place.ensures.ok_part at c.place_of.ensures.found)).0 refl

pub returns-then-levels-gt-SLOTS-clause-answer : goal.returns-then-levels-gt-SLOTS-clause-answer
returns-then-levels-gt-SLOTS-clause-answer c = rw (levels_many c.args.self.now c.args.universe c.in_ok-place.place c.args.levels.now (rw c.in_ok-place.ensures.ok_part at c.place_of.ensures.found).1 c.if-levels-gt-SLOTS.true) refl

pub returns-then-levels-gt-SLOTS-clause-table : goal.returns-then-levels-gt-SLOTS-clause-table
returns-then-levels-gt-SLOTS-clause-table c = λ first p. rw (levels_many c.args.self.now c.args.universe c.in_ok-place.place c.args.levels.now (rw c.in_ok-place.ensures.ok_part at c.place_of.ensures.found).1 c.if-levels-gt-SLOTS.true) refl

pub returns-clause-answer : goal.returns-clause-answer
returns-clause-answer c = rw (levels_few c.args.self.now c.args.universe c.in_ok-place.place c.args.levels.now (rw c.in_ok-place.ensures.ok_part at c.place_of.ensures.found).1 c.if-levels-gt-SLOTS.false) refl

pub returns-clause-table : goal.returns-clause-table
returns-clause-table c = λ first p.
    rw (levels_few c.args.self.now c.args.universe c.in_ok-place.place c.args.levels.now (rw c.in_ok-place.ensures.ok_part at c.place_of.ensures.found).1 c.if-levels-gt-SLOTS.false)
    (c.show.ensures.changed ∙ changed_is c.args.self.now c.in_ok-place.place c.args.universe (row_showing (slots_of c.args.levels.now)) (rw c.in_ok-place.ensures.ok_part at c.place_of.ensures.found).2)
