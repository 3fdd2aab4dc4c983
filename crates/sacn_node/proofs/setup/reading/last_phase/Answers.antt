use Rattle.std.proofs.Common.{◌≡◌, ◌≤◌, ◌∙◌, ap, sym, false, length, rules}
use Rattle.sacn_files.specs.Numbers.{has_repeat}
use Rattle.sacn_node.specs.declared.limits.TheConstants.{MAX_PORTS}
use Rattle.sacn_node.specs.Setup.{port_numbers}
use Rattle.sacn_node.proofs.SetupLemmas.{sorted_rise, sorted_few, sorted_ports}
use Rattle.sacn_node.proofs.setup.reading.last_phase.Goals as goal

pub order_phase-requires-clause-rising : goal.order_phase-requires-clause-rising
order_phase-requires-clause-rising c =
    let once : has_repeat (port_numbers c.args.ports.items) ≡ false =
    ap (λ ps. has_repeat (port_numbers ps)) (sym c.as_slice.ensures.value) ∙ sym c.has_repeat.ensures ∙ c.if-has_repeat.false in
    rw c.in_ok-sorted.ensures.in_order (sorted_rise c.args.ports.items once)

pub order_phase-requires-clause-few : goal.order_phase-requires-clause-few
order_phase-requires-clause-few c =
    let few : length c.args.ports.items ≤ MAX_PORTS = search rules in
    rw c.in_ok-sorted.ensures.in_order (sorted_few c.args.ports.items MAX_PORTS few)

pub order_phase-requires-clause-ports : goal.order_phase-requires-clause-ports
order_phase-requires-clause-ports c = rw c.in_ok-sorted.ensures.in_order (sorted_ports c.args.ports.items c.requires.ports)
