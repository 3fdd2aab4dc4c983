use Rattle.sacn_tell.proofs.Following.{accounts_are_of_what_was_handed}
use Rattle.sacn_tell.proofs.laws.accounts_are_of_what_was_handed.Goals as goal

pub returns : goal.returns
returns c = accounts_are_of_what_was_handed c.accounts_are_of_their_packets.ensures
