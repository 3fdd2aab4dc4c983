use Rattle.sacn_audit.proofs.AwaitedLists.{missing_lists_are_of_their_packets}
use Rattle.sacn_audit.proofs.laws.missing_lists_are_of_their_packets.Goals as goal

pub returns : goal.returns
returns c = missing_lists_are_of_their_packets
