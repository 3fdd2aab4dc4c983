use Rattle.sacn_packets.proofs.Packets.{one_packet}
use Rattle.sacn_packets.proofs.framing.laws.one_reading.Goals as goal

pub returns : goal.returns
returns c = one_packet
