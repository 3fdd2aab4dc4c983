use Rattle.std.proofs.Common.{◌<◌, None, length, get_or, arith}
use Rattle.std.proofs.lemmas.List.{get_or_default}
use Rattle.std.proofs.lemmas.List.Edits.{map_over_more}
use Rattle.sacn_node.specs.Showings.{unseen, with_found}
use Rattle.sacn_node.proofs.showing.forget_all.Goals as goal

pub loop-port-preserved : goal.loop-port-preserved
loop-port-preserved c =
    let ss = c.args.ports.now in
    let ys = c.loop-port.ports in
    let i = c.loop-port.port-index in
    let within : i < length ss = omega (arith, c.loop-port-test.true, c.loop-port.auto.port-index-end) in
    let inside : i < length ys = omega (arith, within, c.loop-port.auto.ports) in
    let p = get_or ys i (unseen 0) in
    map_over_more (λ p. with_found p None) ss ys i p within c.loop-port.invariant (get_or_default ys i (unseen 0) p inside)
