-- What a data packet says to a table.
use Rattle.std.specs.Prelude.{◌==◌, if◌then◌else◌}
use Rattle.sacn_packets.specs.Data.{Data}
use Rattle.sacn_sources.specs.Rows.{Packet, Kind, Termination, Preview, Live, Other}

-- a termination, else a preview, else live at start code 0 (E1.31, 6.2.6; the order is profile)
abbrev pub kind_of : Data → Kind
kind_of d = if d.terminated then Termination else (if d.preview then Preview else (if d.start == 0 then Live else Other))

-- the universe is not looked at: a table takes what it is handed
abbrev pub packet_of : Data → Packet
packet_of d = record { source = d.cid; sequence_number = d.number; kind = kind_of d; priority = d.priority; levels = d.slots }
