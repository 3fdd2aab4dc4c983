use Rattle.std.proofs.Common.{◌∙◌, sym}
use Rattle.sacn_orders.proofs.InTurn.{next_here, next_later, next_none}
use Rattle.sacn_orders.proofs.selection.Selection.next_from.Goals as goal

pub returns-then-holds : goal.returns-then-holds
returns-then-holds c = sym (c.loop-next.invariant ∙ next_here c.args.self.now c.loop-next.next c.loop-next-test.true (sym c.if-holds.ensures))

pub loop-next-preserved : goal.loop-next-preserved
loop-next-preserved c = c.loop-next.invariant ∙ next_later c.args.self.now c.loop-next.next c.loop-next-test.true (sym c.if-holds.ensures)

pub returns : goal.returns
returns c = sym (c.loop-next.invariant ∙ next_none c.args.self.now c.loop-next.next c.loop-next-test.false)
