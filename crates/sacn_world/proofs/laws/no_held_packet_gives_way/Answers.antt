use Rattle.sacn_world.proofs.Lasting.{no_way_given}
use Rattle.sacn_world.proofs.laws.no_held_packet_gives_way.Goals as goal

pub returns : goal.returns
returns c = no_way_given
