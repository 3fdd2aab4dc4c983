use Rattle.std.proofs.Common.{◌∙◌, arith}
use Rattle.sacn_packets.proofs.DmpLayer.{is_found, dmp_only}
use Rattle.sacn_packets.proofs.dmp.reading.read_dmp.Goals as goal

pub returns-clause-found : goal.returns-clause-found
returns-clause-found c = is_found c.args.octets.now c.checked_dmp.result (λ i. omega (arith, c.type_inv.octets i)) c.checked_dmp.ensures

pub returns-clause-only : goal.returns-clause-only
returns-clause-only c = λ d is e. c.checked_dmp.ensures ∙ dmp_only c.args.octets.now d is e
