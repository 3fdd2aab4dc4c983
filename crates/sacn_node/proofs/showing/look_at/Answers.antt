use Rattle.std.proofs.Common.{◌≡◌, ◌<◌, false, length, get_or, set, sym, ap, subst, ◌∙◌, arith}
use Rattle.std.proofs.lemmas.List.{get_or_default}
use Rattle.std.proofs.lemmas.List.Edits.{map_over_more}
use Rattle.sacn_node.specs.declared.port_frame.PortFrame.{PortFrame}
use Rattle.sacn_node.specs.Cores.{Node}
use Rattle.sacn_node.specs.Showings.{IsCurrent, concerns, port_after, unseen}
use Rattle.sacn_node.proofs.Expiry.{next_read}
use Rattle.sacn_node.proofs.Looks.{current_at}
use Rattle.sacn_node.proofs.showing.look_at.Goals as goal

pub look-requires : goal.look-requires
look-requires c =
    let n = c.args.core.now in
    let ss = c.args.ports.now in
    let ys = c.loop-port.ports in
    let i = c.loop-port.port-index in
    let us = c.args.universes.now in
    let within : i < length ss = omega (arith, c.loop-port-test.true, c.loop-port.auto.port-index-end) in
    let next = next_read (port_after n) ss ys i (unseen 0) within c.loop-port.invariant.ports in
    let may : (m : Node) (p : PortFrame) → Type 0 = λ m p. concerns c.args.all us m p.port ≡ false → IsCurrent m p in
    record {
      current = λ none.
          subst (λ m. may m (get_or ys i (unseen 0))) (sym c.loop-port.invariant.core)
          (subst (may n) (sym next) (current_at c.args.all us n ss i (unseen 0) within c.requires)) (sym c.may_differ-may_differ.ensures ∙ none);
    }

pub loop-port-preserved : goal.loop-port-preserved
loop-port-preserved c =
    let n = c.args.core.now in
    let ss = c.args.ports.now in
    let ys = c.loop-port.ports in
    let i = c.loop-port.port-index in
    let within : i < length ss = omega (arith, c.loop-port-test.true, c.loop-port.auto.port-index-end) in
    let inside : i < length ys = omega (arith, within, c.loop-port.auto.ports) in
    let p = get_or ys i (unseen 0) in
    let looked : c.look.new.self ≡ port_after n p = c.look.ensures.port ∙ ap (λ n. port_after n p) c.loop-port.invariant.core in
    record {
      core = c.look.ensures.core ∙ c.loop-port.invariant.core;
      ports = ap (set ys i) looked ∙ map_over_more (port_after n) ss ys i p within c.loop-port.invariant.ports (get_or_default ys i (unseen 0) p inside);
    }
