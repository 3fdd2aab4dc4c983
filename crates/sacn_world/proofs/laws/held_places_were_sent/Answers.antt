use Rattle.sacn_world.proofs.Origin.{held_were_sent, ports_stay}
use Rattle.sacn_world.proofs.laws.held_places_were_sent.Goals as goal

pub returns : goal.returns
returns c = record { sent = held_were_sent; ports = ports_stay }
