-- The layers of a data packet among its octets, each in the body of the one round it.
use Rattle.std.specs.Prelude.{ℕ, ◌+◌, ◌≤◌, List, length}
use Rattle.sacn_packets.specs.Octets.{length_of}
use Rattle.sacn_packets.specs.RootText.{Root}
use Rattle.sacn_packets.specs.RootReading.{root_at}
use Rattle.sacn_packets.specs.DmpText.{Dmp}
use Rattle.sacn_packets.specs.DmpReading.{dmp_at}
use Rattle.sacn_packets.specs.Data.{Data}
use Rattle.sacn_packets.specs.FramingText.{Framing}
use Rattle.sacn_packets.specs.FramingReading.{framing_at}

abbrev pub data_of : Root → Framing → Dmp → Data
data_of root framing dmp = record {
  cid = root.cid;
  name = framing.name;
  priority = framing.priority;
  number = framing.number;
  preview = framing.preview;
  terminated = framing.terminated;
  universe = framing.universe;
  start = dmp.start;
  slots = dmp.slots;
}

abbrev pub framing_in : List ℕ → Framing
framing_in octets = framing_at (root_at octets).body

abbrev pub dmp_in : List ℕ → Dmp
dmp_in octets = dmp_at (framing_in octets).body

-- the data packet that octets are
abbrev pub data_in : List ℕ → Data
data_in octets = data_of (root_at octets) (framing_in octets) (dmp_in octets)

-- the root PDU is there whole, and has room for the framing layer's 77 octets and the DMP layer's first 11
pub record IsLaidOut (octets : List ℕ) : Type 0 where
  pub least : 110 ≤ length_of octets 16
  pub whole : 16 + length_of octets 16 ≤ length octets
