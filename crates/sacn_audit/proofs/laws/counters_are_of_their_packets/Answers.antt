use Rattle.sacn_audit.proofs.CountingOn.{counters_are_of_their_packets}
use Rattle.sacn_audit.proofs.laws.counters_are_of_their_packets.Goals as goal

pub returns : goal.returns
returns c = counters_are_of_their_packets
