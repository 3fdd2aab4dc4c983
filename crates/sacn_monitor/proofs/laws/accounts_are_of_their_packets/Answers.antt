use Rattle.sacn_monitor.proofs.Tracking.{accounts_are_of_their_packets}
use Rattle.sacn_monitor.proofs.laws.accounts_are_of_their_packets.Goals as goal

pub returns : goal.returns
returns c = accounts_are_of_their_packets
