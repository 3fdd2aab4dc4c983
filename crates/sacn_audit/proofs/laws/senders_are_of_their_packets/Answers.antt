use Rattle.sacn_audit.proofs.Senders.{senders_are_of_their_packets}
use Rattle.sacn_audit.proofs.laws.senders_are_of_their_packets.Goals as goal

pub returns : goal.returns
returns c = senders_are_of_their_packets
