-- The packet at the front of octets, or the first check that fails.
use Rattle.std.specs.Prelude.{ℕ, List, Result, Ok, ◌==◌, if◌then◌else◌}
use Rattle.sacn_packets.specs.declared.root.fault.PacketFault.{PacketFault}
use Rattle.sacn_packets.specs.Results.{◌>>=◌}
use Rattle.sacn_packets.specs.RootText.{Root}
use Rattle.sacn_packets.specs.RootReading.{reading_root}
use Rattle.sacn_packets.specs.DmpReading.{reading_dmp}
use Rattle.sacn_packets.specs.FramingReading.{reading_framing}
use Rattle.sacn_packets.specs.declared.framing.packet.Packet.{Packet}
use Rattle.sacn_packets.specs.declared.framing.packet.Packet.TheVariants.{DataPacket, PagePacket, SyncPacket}
pub use Rattle.sacn_packets.specs.DataLayers.{data_of}
pub use Rattle.sacn_packets.specs.PageLayers.{page_of}
use Rattle.sacn_packets.specs.PageReading.{reading_extended_vector, reading_page}

-- what a datagram is read as
abbrev pub Reading : Type 0
Reading = Result Packet PacketFault

-- the checks of the root layer, then those of the framing layer, then those of the DMP layer
unfoldable pub reading_data : Root → Reading
reading_data root = do
  framing ← reading_framing root.body
  dmp ← reading_dmp framing.body
  Ok (DataPacket (data_of root framing dmp))

-- the checks of the root layer, then those of an extended framing layer, then those of a page
unfoldable pub reading_extended : Root → Reading
reading_extended root = do
  vector ← reading_extended_vector root.body
  if vector == 1 then Ok SyncPacket else (reading_page root.body >>= λ layer. Ok (PagePacket (page_of root layer)))

unfoldable pub reading_packet : List ℕ → Reading
reading_packet octets = do
  root ← reading_root octets
  if root.vector == 4 then reading_data root else reading_extended root
