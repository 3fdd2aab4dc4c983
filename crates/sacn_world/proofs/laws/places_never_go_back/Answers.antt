use Rattle.sacn_world.proofs.Forward.{later_than_held, never_back}
use Rattle.sacn_world.proofs.Lists.{row_of_seen}
use Rattle.sacn_world.proofs.laws.places_never_go_back.Goals as goal

pub returns : goal.returns
returns c = record { later = later_than_held; kept = never_back; entry = row_of_seen }
