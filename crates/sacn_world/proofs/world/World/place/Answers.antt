use Rattle.std.proofs.Common.{rules, ◌∙◌, arith}
use Rattle.std.proofs.lemmas.Option.{slice_get_read}
use Rattle.sacn_world.specs.Watches.{Watch}
use Rattle.sacn_world.proofs.Readers.{no_place, the_place}
use Rattle.sacn_world.proofs.world.World.place.Goals as goal

pub returns-then-node-len : goal.returns-then-node-len
returns-then-node-len c =
    let s = c.self.inside in
    no_place s.consoles.items s.sent.items s.nodes.items c.self.invariant c.args.self.now c.self.view_is c.args.node c.args.universe c.args.cid.now (omega arith)

pub returns : goal.returns
returns c =
    let s = c.self.inside in
    let y : Watch = c.index.result.now in
    let ey = slice_get_read s.nodes.items s.nodes.len c.args.node y (search rules) (omega arith) c.index.ensures in
    c.place.ensures ∙ the_place s.consoles.items s.sent.items s.nodes.items c.self.invariant c.args.self.now c.self.view_is c.args.node c.args.universe c.args.cid.now y ey
