-- What a data packet says, from what it is to say.
use Rattle.sacn_packets.specs.Data.{Data}
use Rattle.sacn_packets.specs.declared.framing.writing.DataFields.{DataFields}

abbrev pub data_from : DataFields → Data
data_from f = record {
  cid = f.cid;
  name = f.name;
  priority = f.priority;
  number = f.number;
  preview = f.preview;
  terminated = f.terminated;
  universe = f.universe;
  start = f.start;
  slots = f.slots.now;
}
