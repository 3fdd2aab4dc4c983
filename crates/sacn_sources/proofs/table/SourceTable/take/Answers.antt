use Rattle.std.proofs.Common.{ap, sym, ◌∙◌}
use Rattle.sacn_sources.specs.Merge.{merge}
use Rattle.sacn_sources.specs.Packets.{packet_of}
use Rattle.sacn_sources.proofs.Keeps.{neither_left, neither_right}
use Rattle.sacn_sources.proofs.Wakes.{fresh_taken}
use Rattle.sacn_sources.proofs.table.SourceTable.take.Goals as goal

pub invariant_of-self : goal.invariant_of-self
invariant_of-self c = (
  (λ none. c.self.invariant.0 (neither_left c.self.inside.due c.renews.result none)
      ∙ ap merge (sym (c.take-taken.ensures.quiet (sym c.renews.ensures ∙ neither_right c.self.inside.due c.renews.result none)))),
  fresh_taken c.self.inside.earliest (packet_of c.args.packet.now) c.self.inside.store c.take-taken.new.self c.self.invariant.1 c.take-taken.ensures.table,
)
