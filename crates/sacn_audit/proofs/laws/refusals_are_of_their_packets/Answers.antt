use Rattle.sacn_audit.proofs.Refusing.{refusals_are_of_their_packets}
use Rattle.sacn_audit.proofs.laws.refusals_are_of_their_packets.Goals as goal

pub returns : goal.returns
returns c = refusals_are_of_their_packets
