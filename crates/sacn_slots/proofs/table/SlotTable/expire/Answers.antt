use Rattle.std.proofs.Common.{arith, sym, ap, subst, ◌∙◌, ◌≡◌, max}
use Rattle.sacn_sources.specs.LatestMerge.{Kept}
use Rattle.sacn_slots.specs.SlotWakes.{IsYoung}
use Rattle.sacn_slots.proofs.SlotWakes.{swept_young}
use Rattle.sacn_slots.proofs.table.SlotTable.expire.Goals as goal

pub invariant_of-self : goal.invariant_of-self
invariant_of-self c =
    let moved = ap (λ (k : Kept). k.table.moment) c.expire-lost.ensures.table in
    let clock : c.max-self-inside.result ≡ c.expire-lost.new.self.table.moment = omega (arith, c.max-self-inside.ensures, c.self.invariant.0, moved) in
    (clock, subst (IsYoung c.max-self-inside.result) (sym c.sweep.ensures) (swept_young c.max-self-inside.result c.expire-lost.new.self.table.rows c.self.inside.given.items (omega (arith, c.max-self-inside.type_inv))))
