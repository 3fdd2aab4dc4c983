use Rattle.sacn_network.proofs.Tracking.{accounts_are}
use Rattle.sacn_network.proofs.laws.accounts_are_of_their_packets.Goals as goal

pub returns : goal.returns
returns c = accounts_are
