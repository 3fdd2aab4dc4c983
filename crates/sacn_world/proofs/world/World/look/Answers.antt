use Rattle.std.proofs.Common.{rules, refl, sym, arith}
use Rattle.std.proofs.lemmas.Option.{slice_get_read}
use Rattle.sacn_world.specs.Watches.{Watch}
use Rattle.sacn_world.proofs.Keeping.{no_node_look, look_done, answered_as}
use Rattle.sacn_world.proofs.world.World.look.Goals as goal

pub returns-then-node-len : goal.returns-then-node-len
returns-then-node-len c =
    let s = c.self.inside in
    (no_node_look s.consoles.items s.sent.items s.nodes.items c.self.invariant c.args.self.now c.self.view_is c.args.node c.args.port c.args.now (omega arith), refl)

pub invariant_of-self : goal.invariant_of-self
invariant_of-self c =
    let s = c.self.inside in
    let y : Watch = c.index_mut.result.now in
    let e = slice_get_read s.nodes.items s.nodes.len c.args.node y (search rules) (omega arith) c.index_mut.ensures.value in
    (look_done s.consoles.items s.sent.items s.nodes.items c.self.invariant c.args.self.now c.self.view_is c.args.node c.args.port c.args.now y e c.look-frame.new.self c.look-frame.ensures.core c.look-frame.result c.look-frame.ensures.frame).kept

pub returns : goal.returns
returns c =
    let s = c.self.inside in
    let y : Watch = c.index_mut.result.now in
    let e = slice_get_read s.nodes.items s.nodes.len c.args.node y (search rules) (omega arith) c.index_mut.ensures.value in
    let d = look_done s.consoles.items s.sent.items s.nodes.items c.self.invariant c.args.self.now c.self.view_is c.args.node c.args.port c.args.now y e c.look-frame.new.self c.look-frame.ensures.core c.look-frame.result c.look-frame.ensures.frame in
    answered_as d.step (sym c.look_answer.ensures)
