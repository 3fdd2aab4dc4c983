use Rattle.sacn_audit.proofs.Auditing.{breaches_are_of_their_packets}
use Rattle.sacn_audit.proofs.laws.breaches_are_of_their_packets.Goals as goal

pub returns : goal.returns
returns c = breaches_are_of_their_packets
