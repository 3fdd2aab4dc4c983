use Rattle.std.proofs.Common.{sym, ap, ◌∙◌}
use Rattle.sacn_schedule.specs.Cids.{has_same_cid}
use Rattle.sacn_world.proofs.Beginning.{consoles_apart, kept_as}
use Rattle.sacn_world.proofs.world.World.new.Goals as goal

pub invariant_of-result : goal.invariant_of-result
invariant_of-result c =
    (kept_as c.universes_are_those_of_ranges.ensures c.args.consoles.items c.args.nodes.items (ap has_same_cid (sym c.as_slice.ensures.value) ∙ sym c.has_same_cid.ensures.test ∙ c.if-has_same_cid.false) c.in-Ok.consoles.items c.new.result.items c.in-Ok-new_nodes.nodes.items c.in-Ok.ensures c.new.ensures.items c.in-Ok-new_nodes.ensures).0

pub returns-clause-made : goal.returns-clause-made
returns-clause-made c =
    let none = ap has_same_cid (sym c.as_slice.ensures.value) ∙ sym c.has_same_cid.ensures.test ∙ c.if-has_same_cid.false in
    ((kept_as c.universes_are_those_of_ranges.ensures c.args.consoles.items c.args.nodes.items none c.in-Ok.consoles.items c.new.result.items c.in-Ok-new_nodes.nodes.items c.in-Ok.ensures c.new.ensures.items c.in-Ok-new_nodes.ensures).1, none)

pub returns-clause-apart : goal.returns-clause-apart
returns-clause-apart c = consoles_apart c.args.consoles.items (ap has_same_cid (sym c.as_slice.ensures.value) ∙ sym c.has_same_cid.ensures.test ∙ c.if-has_same_cid.false)
