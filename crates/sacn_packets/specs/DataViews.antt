-- What a view of a data packet shows.
use Rattle.sacn_packets.specs.Data.{Data, IsData}
use Rattle.sacn_packets.specs.DataLayers.{data_in, IsLaidOut}
use Rattle.sacn_packets.specs.declared.framing.data.DataView.TheInside.{Inside}

abbrev pub data_of_view : Inside → Data
data_of_view v = data_in v.octets.now

pub record IsShown (v : Inside) : Type 0 where
  pub is_data : IsData (data_of_view v)
  pub laid_out : IsLaidOut v.octets.now
