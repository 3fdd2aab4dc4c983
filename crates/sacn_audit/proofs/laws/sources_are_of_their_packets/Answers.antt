use Rattle.sacn_audit.proofs.NetworkAuditing.{sources_are_of_their_packets}
use Rattle.sacn_audit.proofs.laws.sources_are_of_their_packets.Goals as goal

pub returns : goal.returns
returns c = sources_are_of_their_packets
