use Rattle.std.proofs.Common.{◌∙◌, arith}
use Rattle.sacn_packets.proofs.RootLayer.{is_found, root_only}
use Rattle.sacn_packets.proofs.root.reading.read_root.Goals as goal

pub returns-clause-found : goal.returns-clause-found
returns-clause-found c = is_found c.args.octets.now c.checked_root.result (λ i. omega (arith, c.type_inv.octets i)) c.checked_root.ensures

pub returns-clause-only : goal.returns-clause-only
returns-clause-only c = λ r reads. c.checked_root.ensures ∙ root_only c.args.octets.now r reads
