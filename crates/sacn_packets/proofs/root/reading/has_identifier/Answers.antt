use Rattle.std.proofs.Common.{arith}
use Rattle.sacn_packets.proofs.Identifier.{identifier_is}
use Rattle.sacn_packets.proofs.root.reading.has_identifier.Goals as goal

pub returns : goal.returns
returns c = rw (c.u32_at.ensures, c.u32_at-2.ensures, c.u32_at-3.ensures) (identifier_is c.args.octets.now (λ i. omega (arith, c.type_inv.octets i)) c.requires)
