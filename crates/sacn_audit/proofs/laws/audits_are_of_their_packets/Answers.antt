use Rattle.sacn_audit.proofs.NetworkAuditing.{audits_are_of_their_packets}
use Rattle.sacn_audit.proofs.laws.audits_are_of_their_packets.Goals as goal

pub returns : goal.returns
returns c = audits_are_of_their_packets
