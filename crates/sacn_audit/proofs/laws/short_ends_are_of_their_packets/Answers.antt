use Rattle.sacn_audit.proofs.Auditing.{short_ends_are_of_their_packets}
use Rattle.sacn_audit.proofs.laws.short_ends_are_of_their_packets.Goals as goal

pub returns : goal.returns
returns c = short_ends_are_of_their_packets
