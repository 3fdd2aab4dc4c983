use Rattle.sacn_gateway.proofs.Offers.{working, tried_again, rest, of_turns}
use Rattle.sacn_gateway.proofs.laws.interfaces_show_their_ports.Goals as goal

pub returns-clause-shows : goal.returns-clause-shows
returns-clause-shows c = working

pub returns-clause-tried : goal.returns-clause-tried
returns-clause-tried c = tried_again

pub returns-clause-rests : goal.returns-clause-rests
returns-clause-rests c = rest

pub returns-clause-frames : goal.returns-clause-frames
returns-clause-frames c = of_turns
