use Rattle.std.proofs.Common.{rules, refl, ap, ◌∙◌, arith, inl, inr}
use Rattle.std.proofs.lemmas.Option.{slice_get_read}
use Rattle.sacn_world.specs.Watches.{Watch}
use Rattle.sacn_world.specs.Invariants.{seen_world}
use Rattle.sacn_world.proofs.Keeping.{no_node_restart, restart_node_done, restart_node_is, put_back}
use Rattle.sacn_world.proofs.world.World.restart_node.Goals as goal

pub returns-then-node-len : goal.returns-then-node-len
returns-then-node-len c =
    let s = c.self.inside in
    (inl (no_node_restart s.consoles.items s.sent.items s.nodes.items c.self.invariant c.args.self.now c.self.view_is c.args.node (omega arith)), refl)

pub returns-in_default : goal.returns-in_default
returns-in_default c =
    let s = c.self.inside in
    let y : Watch = c.index_mut.result.now in
    let ey = slice_get_read s.nodes.items s.nodes.len c.args.node y (search rules) (omega arith) c.index_mut.ensures.value in (
      inr (refl, restart_node_is s.consoles.items s.sent.items s.nodes.items c.self.invariant c.args.self.now c.self.view_is c.args.node y ey),
      ap (seen_world s.consoles.items s.sent.items) (put_back s.nodes.items c.args.node y c.restart.new.self ey c.in_default.ensures.unchanged) ∙ c.self.view_is,
    )

pub invariant_of-self-2 : goal.invariant_of-self-2
invariant_of-self-2 c =
    let s = c.self.inside in
    let y : Watch = c.index_mut.result.now in
    let ey = slice_get_read s.nodes.items s.nodes.len c.args.node y (search rules) (omega arith) c.index_mut.ensures.value in
    (restart_node_done s.consoles.items s.sent.items s.nodes.items c.self.invariant c.args.self.now c.self.view_is c.universes_are_those_of_ranges.ensures c.args.node y ey c.restart.new.self c.in-Ok.ensures.anew).kept

pub returns : goal.returns
returns c =
    let s = c.self.inside in
    let y : Watch = c.index_mut.result.now in
    let ey = slice_get_read s.nodes.items s.nodes.len c.args.node y (search rules) (omega arith) c.index_mut.ensures.value in
    (restart_node_done s.consoles.items s.sent.items s.nodes.items c.self.invariant c.args.self.now c.self.view_is c.universes_are_those_of_ranges.ensures c.args.node y ey c.restart.new.self c.in-Ok.ensures.anew).step
