use Rattle.std.proofs.Common.{rules, refl, [], ◌∙◌}
use Rattle.sacn_console.specs.declared.limits.TheConstants.{TERMINATIONS}
use Rattle.sacn_console.specs.declared.line.State.TheVariants.{Ending}
use Rattle.sacn_source.specs.Rows.{row_in}
use Rattle.sacn_source.proofs.Orders.{unknown, end_known, changed_is}
use Rattle.sacn_source.proofs.source_universes.SourceUniverses.end.Goals as goal

pub returns-in_err-place-clause-answer : goal.returns-in_err-place-clause-answer
returns-in_err-place-clause-answer c = rw (unknown c.args.self.now c.args.universe 0 [] (rw c.in_err-place.ensures.ok_part at c.place_of.ensures.found)).2 (search rules)

pub returns-in_err-place-clause-table : goal.returns-in_err-place-clause-table
returns-in_err-place-clause-table c = λ first p. rw (unknown c.args.self.now c.args.universe 0 [] (rw c.in_err-place.ensures.ok_part at c.place_of.ensures.found)).2 refl

pub returns-in_err-can_end-clause-answer : goal.returns-in_err-can_end-clause-answer
returns-in_err-can_end-clause-answer c = rw (end_known c.args.self.now c.args.universe c.in_ok-place.place (rw c.in_ok-place.ensures.ok_part at c.place_of.ensures.found).1) (search rules)

pub returns-in_err-can_end-clause-table : goal.returns-in_err-can_end-clause-table
returns-in_err-can_end-clause-table c = λ first p. rw (end_known c.args.self.now c.args.universe c.in_ok-place.place (rw c.in_ok-place.ensures.ok_part at c.place_of.ensures.found).1, ← c.in_err-can_end.ensures) refl

pub returns-clause-answer : goal.returns-clause-answer
returns-clause-answer c = rw (end_known c.args.self.now c.args.universe c.in_ok-place.place (rw c.in_ok-place.ensures.ok_part at c.place_of.ensures.found).1) c.in_ok-can_end.ensures

pub returns-clause-table : goal.returns-clause-table
returns-clause-table c = λ first p.
    rw (end_known c.args.self.now c.args.universe c.in_ok-place.place (rw c.in_ok-place.ensures.ok_part at c.place_of.ensures.found).1, ← c.in_ok-can_end.ensures)
    (c.end_at.ensures ∙ changed_is c.args.self.now c.in_ok-place.place c.args.universe (row_in (Ending TERMINATIONS)) (rw c.in_ok-place.ensures.ok_part at c.place_of.ensures.found).2)
