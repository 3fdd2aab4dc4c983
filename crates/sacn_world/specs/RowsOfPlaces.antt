-- What the places that a node holds look like in its table, and what an entry of a stream looks like on the wire.
use Rattle.std.specs.Prelude.{ℕ, Bool, true, false, List, map, Option, Some, None}
use Rattle.sacn_sources.specs.Merge.{Shown}
use Rattle.sacn_sources.specs.Rows.{Row, Packet}
use Rattle.sacn_world.specs.Streams.{Sent, at, stream_of, number_at, is_live, kind_by, priority, levels}
use Rattle.sacn_world.specs.Holdings.{Hold}

abbrev pub shown_by : Bool → ℕ → List ℕ → Option Shown
shown_by true p l = Some (record { priority = p; levels = l })
shown_by false p l = None

-- the data packet that is sent as place q of the stream of s
abbrev pub packet_at : List ℕ → List Sent → ℕ → Packet
packet_at s st q = record {
  source = s;
  sequence_number = number_at st q;
  kind = kind_by (is_live (at st q));
  priority = priority (at st q);
  levels = levels (at st q);
}

-- the row for a place that is held on universe u
abbrev pub seen : ℕ → List Sent → Hold → Row
seen u sent h =
    let st = stream_of h.source u sent in
    record {
      source = h.source;
      sequence_number = number_at st h.place;
      shown = shown_by (is_live (at st h.place)) (priority (at st h.place)) (levels (at st h.place));
      moment = h.moment;
    }

abbrev pub rows_of : ℕ → List Sent → List Hold → List Row
rows_of u sent hs = map (seen u sent) hs
