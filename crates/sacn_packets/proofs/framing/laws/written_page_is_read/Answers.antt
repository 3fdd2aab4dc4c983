use Rattle.sacn_packets.proofs.Packets.{page_written}
use Rattle.sacn_packets.proofs.framing.laws.written_page_is_read.Goals as goal

pub returns : goal.returns
returns c = page_written
