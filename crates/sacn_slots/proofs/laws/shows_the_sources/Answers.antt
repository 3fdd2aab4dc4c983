use Rattle.sacn_slots.proofs.Alike.{shows_the_sources}
use Rattle.sacn_slots.proofs.laws.shows_the_sources.Goals as goal

pub returns : goal.returns
returns c = shows_the_sources c.merge_by_packet.ensures
