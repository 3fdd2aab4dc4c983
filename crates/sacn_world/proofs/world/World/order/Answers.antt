use Rattle.std.proofs.Common.{rules, refl, sym, ap, arith}
use Rattle.std.proofs.lemmas.Option.{slice_get_read}
use Rattle.sacn_world.specs.declared.answer.Answer.TheVariants.{Ordered}
use Rattle.sacn_world.specs.declared.console.Console.{Console}
use Rattle.sacn_world.proofs.Keeping.{no_console_order, order_done, answered_as}
use Rattle.sacn_world.proofs.world.World.order.Goals as goal

pub returns-then-console-len : goal.returns-then-console-len
returns-then-console-len c =
    let s = c.self.inside in
    (no_console_order s.consoles.items s.sent.items s.nodes.items c.self.invariant c.args.self.now c.self.view_is c.args.console c.args.now c.args.command (omega arith), refl)

pub invariant_of-self : goal.invariant_of-self
invariant_of-self c =
    let s = c.self.inside in
    let y : Console = c.index_mut-console.result.now in
    let e = slice_get_read s.consoles.items s.consoles.len c.args.console y (search rules) (omega arith) c.index_mut-console.ensures.value in
    (order_done s.consoles.items s.sent.items s.nodes.items c.self.invariant c.args.self.now c.self.view_is c.args.console c.args.now c.args.command y e c.command.new.self c.command.ensures.core).kept

pub returns : goal.returns
returns c =
    let s = c.self.inside in
    let y : Console = c.index_mut-console.result.now in
    let e = slice_get_read s.consoles.items s.consoles.len c.args.console y (search rules) (omega arith) c.index_mut-console.ensures.value in
    let d = order_done s.consoles.items s.sent.items s.nodes.items c.self.invariant c.args.self.now c.self.view_is c.args.console c.args.now c.args.command y e c.command.new.self c.command.ensures.core in
    answered_as d.step (ap Ordered (sym c.command.ensures.answer))
