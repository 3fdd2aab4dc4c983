use Rattle.std.proofs.Common.{rules, refl, ap, ◌∙◌, arith, inl, inr}
use Rattle.std.proofs.lemmas.Option.{slice_get_read}
use Rattle.sacn_world.specs.declared.console.Console.{Console}
use Rattle.sacn_world.specs.Invariants.{seen_world}
use Rattle.sacn_world.proofs.Keeping.{no_console_restart, restart_console_done, restart_console_is, put_back}
use Rattle.sacn_world.proofs.world.World.restart_console.Goals as goal

pub returns-then-console-len : goal.returns-then-console-len
returns-then-console-len c =
    let s = c.self.inside in
    (inl (no_console_restart s.consoles.items s.sent.items s.nodes.items c.self.invariant c.args.self.now c.self.view_is c.args.console c.args.first (omega arith)), refl)

pub returns-in_default : goal.returns-in_default
returns-in_default c =
    let s = c.self.inside in
    let y : Console = c.index_mut.result.now in
    let ey = slice_get_read s.consoles.items s.consoles.len c.args.console y (search rules) (omega arith) c.index_mut.ensures.value in (
      inr (refl, (_, restart_console_is s.consoles.items s.sent.items s.nodes.items c.self.invariant c.args.self.now c.self.view_is c.args.console c.args.first y ey)),
      ap (λ cs. seen_world cs s.sent.items s.nodes.items) (put_back s.consoles.items c.args.console y c.restart.new.self ey c.in_default.ensures.unchanged) ∙ c.self.view_is,
    )

pub invariant_of-self-2 : goal.invariant_of-self-2
invariant_of-self-2 c =
    let s = c.self.inside in
    let y : Console = c.index_mut.result.now in
    let ey = slice_get_read s.consoles.items s.consoles.len c.args.console y (search rules) (omega arith) c.index_mut.ensures.value in
    (restart_console_done s.consoles.items s.sent.items s.nodes.items c.self.invariant c.args.self.now c.self.view_is c.args.console c.args.first y ey c.restart.new.self c.in-Ok.ensures.begun).kept

pub returns : goal.returns
returns c =
    let s = c.self.inside in
    let y : Console = c.index_mut.result.now in
    let ey = slice_get_read s.consoles.items s.consoles.len c.args.console y (search rules) (omega arith) c.index_mut.ensures.value in
    (restart_console_done s.consoles.items s.sent.items s.nodes.items c.self.invariant c.args.self.now c.self.view_is c.args.console c.args.first y ey c.restart.new.self c.in-Ok.ensures.begun).step
