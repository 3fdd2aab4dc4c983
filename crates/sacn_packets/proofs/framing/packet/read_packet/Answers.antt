use Rattle.std.proofs.Common.{◌∙◌, arith}
use Rattle.sacn_packets.proofs.Packets.{is_found, packet_only}
use Rattle.sacn_packets.proofs.framing.packet.read_packet.Goals as goal

pub returns-clause-found : goal.returns-clause-found
returns-clause-found c = is_found c.args.octets.now c.checked_packet.result (λ i. omega (arith, c.type_inv.octets i)) c.checked_packet.ensures

pub returns-clause-only : goal.returns-clause-only
returns-clause-only c = λ packet reads. c.checked_packet.ensures ∙ packet_only c.args.octets.now packet reads
