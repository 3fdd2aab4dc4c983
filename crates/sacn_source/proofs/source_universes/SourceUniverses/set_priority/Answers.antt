use Rattle.std.proofs.Common.{rules, refl, [], ◌∙◌}
use Rattle.sacn_source.specs.Rows.{row_prior}
use Rattle.sacn_source.proofs.Orders.{unknown, priority_high, priority_low, changed_is}
use Rattle.sacn_source.proofs.source_universes.SourceUniverses.set_priority.Goals as goal

pub returns-in_err-place-clause-answer : goal.returns-in_err-place-clause-answer
returns-in_err-place-clause-answer c = rw (unknown c.args.self.now c.args.universe c.args.priority [] (rw c.in_err-place.ensures.ok_part at c.place_of.ensures.found)).1 (search rules)

pub returns-in_err-place-clause-table : goal.returns-in_err-place-clause-table
returns-in_err-place-clause-table c = λ first p. rw (unknown c.args.self.now c.args.universe c.args.priority [] (rw c.in_err-place.ensures.ok_part at c.place_of.ensures.found)).1 refl

pub returns-then-priority-gt-MAX_PRIORITY-clause-answer : goal.returns-then-priority-gt-MAX_PRIORITY-clause-answer
returns-then-priority-gt-MAX_PRIORITY-clause-answer c = rw (priority_high c.args.self.now c.args.universe c.in_ok-place.place c.args.priority (rw c.in_ok-place.ensures.ok_part at c.place_of.ensures.found).1 c.if-priority-gt-MAX_PRIORITY.true) refl

pub returns-then-priority-gt-MAX_PRIORITY-clause-table : goal.returns-then-priority-gt-MAX_PRIORITY-clause-table
returns-then-priority-gt-MAX_PRIORITY-clause-table c = λ first p. rw (priority_high c.args.self.now c.args.universe c.in_ok-place.place c.args.priority (rw c.in_ok-place.ensures.ok_part at c.place_of.ensures.found).1 c.if-priority-gt-MAX_PRIORITY.true) refl

pub returns-clause-answer : goal.returns-clause-answer
returns-clause-answer c = rw (priority_low c.args.self.now c.args.universe c.in_ok-place.place c.args.priority (rw c.in_ok-place.ensures.ok_part at c.place_of.ensures.found).1 c.if-priority-gt-MAX_PRIORITY.false) refl

pub returns-clause-table : goal.returns-clause-table
returns-clause-table c = λ first p.
    rw (priority_low c.args.self.now c.args.universe c.in_ok-place.place c.args.priority (rw c.in_ok-place.ensures.ok_part at c.place_of.ensures.found).1 c.if-priority-gt-MAX_PRIORITY.false)
    (c.prioritize.ensures ∙ changed_is c.args.self.now c.in_ok-place.place c.args.universe (row_prior c.args.priority) (rw c.in_ok-place.ensures.ok_part at c.place_of.ensures.found).2)
