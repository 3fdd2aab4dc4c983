use Rattle.std.proofs.Common.{◌≡◌, ◌+◌, ◌-◌, length, take, drop, get_or, ap, sym, ◌∙◌, arith}
use Rattle.std.proofs.lemmas.List.{length-take, length-drop}
use Rattle.sacn_node.specs.Cores.{core_slots}
use Rattle.sacn_node.proofs.Frames.{covered, level_in_is, part_there}
use Rattle.sacn_node.proofs.ports.show_range.Goals as goal

pub returns-clause-inside : goal.returns-clause-inside
returns-clause-inside c i has =
    let r = c.args.range in
    let to = c.from-to.result in
    let count = c.from.result in
    let from = c.from-2.result - 1 in
    let slots = core_slots c.args.tables.now r.universe in
    let frame = c.args.frame.now in
    let within = covered i r has in
    let counted : length (take (to + count - to) (drop to frame)) ≡ count =
    omega (arith, length-take (to + count - to) (drop to frame), length-drop to frame, c.told-frame, c.requires.range.fits, c.from-to.ensures, c.from.ensures) in
    let written : c.slots.new.part ≡ take count (drop from slots) = c.slots.ensures.part ∙ ap (λ n. take n (drop from slots)) counted in
    let long : length c.slots.new.part ≡ count = c.slots.auto.part ∙ counted in
    part_there frame c.slots.new.part _ slots to from count i
    (omega (arith, c.told-frame, c.requires.range.fits, c.from-to.ensures))
    (omega (arith, within.0, c.from-to.ensures))
    (omega (arith, within.1, c.from-to.ensures, c.from.ensures))
    long written
    ∙ ap (λ a. get_or slots (a - 1 + (i - to)) 0) c.from-2.ensures
    ∙ ap (λ p. get_or slots (r.slot - 1 + (i - p)) 0) c.from-to.ensures
    ∙ sym (level_in_is (core_slots c.args.tables.now) i r)
