use Rattle.std.proofs.Common.{◌<◌, ◌^◌, rules, sym, subst}
use Rattle.sacn_slots.specs.SlotWakes.{IsYoung}
use Rattle.sacn_slots.proofs.SlotWakes.{given_young, forgotten_young}
use Rattle.sacn_slots.proofs.table.SlotTable.keep_given.Goals as goal

pub invariant_of-self : goal.invariant_of-self
invariant_of-self c =
    let fits : c.self.inside.moment < 2 ^ 64 = search rules in
    (c.self.invariant.0, subst (IsYoung c.self.inside.moment) (sym c.give.ensures) (given_young c.self.inside.moment c.args.packet.now c.self.inside.given.items fits c.self.invariant.1))

pub invariant_of-self-in-EndedNow-1 : goal.invariant_of-self-in-EndedNow-1
invariant_of-self-in-EndedNow-1 c = (c.self.invariant.0, subst (IsYoung c.self.inside.moment) (sym c.forget.ensures) (forgotten_young c.self.inside.moment c.cid.result c.self.inside.given.items c.self.invariant.1))
