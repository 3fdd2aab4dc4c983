use Rattle.std.proofs.Common.{min, ap, sym, ◌∙◌, arith}
use Rattle.sacn_sources.specs.Rows.{Table, slots_of}
use Rattle.sacn_sources.proofs.Keeps.{keeps_expire}
use Rattle.sacn_sources.proofs.Wakes.{fresh_swept}
use Rattle.sacn_sources.proofs.table.SourceTable.sweep.Goals as goal

pub invariant_of-self : goal.invariant_of-self
invariant_of-self c = (
  (λ quiet. keeps_expire c.self.inside.due c.expire-lost.result.live c.self.inside.slots c.args.now c.self.inside.store c.self.invariant.0 c.expire-lost.ensures.live quiet
      ∙ ap (λ (t : Table). slots_of t.rows) (sym c.expire-lost.ensures.table)),
  fresh_swept c.min-self-inside.result c.args.now c.self.inside.store c.expire-lost.new.self c.expire-lost.ensures.table
      (omega (arith, c.moment.ensures, c.moment.type_inv))
      (c.min-self-inside.ensures ∙ ap (λ m. min c.oldest.result m) c.moment.ensures ∙ ap (λ o. min o c.expire-lost.new.self.moment) c.oldest.ensures),
)
