use Rattle.std.proofs.Common.{List, length, ap, arith}
use Rattle.sacn_audit.specs.declared.stream_register.AuditedStream.{AuditedStream}
use Rattle.sacn_audit.proofs.Finding.{stream_kept}
use Rattle.sacn_audit.proofs.stream_register.StreamRegister.hear_at.Goals as goal

pub invariant_of-self : goal.invariant_of-self
invariant_of-self c = (
  c.self.invariant.0,
  stream_kept c.self.inside.streams.items c.args.at c.index_mut.result.now c.hear.new.self c.self.invariant.1 (omega (arith, c.requires, ap (λ (ss : List AuditedStream). length ss) c.self.view_is)) c.index_mut.ensures.value (ap (λ (s : AuditedStream). s.universe) c.hear.ensures) (ap (λ (s : AuditedStream). s.cid) c.hear.ensures),
)
