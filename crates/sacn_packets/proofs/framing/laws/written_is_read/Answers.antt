use Rattle.sacn_packets.proofs.Packets.{data_written}
use Rattle.sacn_packets.proofs.framing.laws.written_is_read.Goals as goal

pub returns : goal.returns
returns c = data_written
