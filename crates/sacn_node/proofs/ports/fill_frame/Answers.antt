use Rattle.std.proofs.Common.{◌≡◌, drop, set, ap, sym, ◌∙◌, arith}
use Rattle.std.proofs.lemmas.List.{get_or-set_same}
use Rattle.sacn_node.specs.Cores.{core_slots}
use Rattle.sacn_node.specs.Ports.{octet_at, port_frame}
use Rattle.sacn_node.proofs.Frames.{frame_is, whole_is}
use Rattle.sacn_node.proofs.ports.fill_frame.Goals as goal

pub returns-clause-frame : goal.returns-clause-frame
returns-clause-frame c =
    let none : c.loop-at.at ≡ 0 = omega (arith, c.loop-at-test.false) in
    frame_is (core_slots c.args.tables.now) c.args.ranges.now c.loop-at.frame c.loop-at.invariant.long
    (λ k lt. c.loop-at.invariant.shown k lt ∙ ap (λ i. octet_at (core_slots c.args.tables.now) (drop i c.args.ranges.now) k) none)

pub returns-in-Some-clause-frame : goal.returns-in-Some-clause-frame
returns-in-Some-clause-frame c =
    let whole = c.in-Some.ensures in
    let slots = core_slots c.args.tables.now in
    whole_is slots c.in-Some.range (set c.args.frame.now 0 0) c.show_range.new.frame whole.1 whole.2 (get_or-set_same c.args.frame.now 0 0 0 (omega (arith, c.told-frame)))
    c.show_range.ensures.inside c.show_range.ensures.outside c.show_range.array_long
    ∙ ap (port_frame slots) (sym whole.0)
