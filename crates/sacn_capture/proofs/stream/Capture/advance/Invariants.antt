use Rattle.std.proofs.Common.{◌≡◌, None}
use Rattle.sacn_capture.specs.declared.pcap.PcapHeader.{PcapHeader}
use Rattle.sacn_capture.specs.Streams.{IsPcap, Stays, counts_of, stopped_by, to_come}
use Rattle.sacn_capture.proofs.stream.Capture.advance.Given as goal

-- no piece so far had a frame: what was to come still is, and of a pcap file nothing was read
abbrev pub invariant-loop : goal.invariant-loop
invariant-loop g l =
    (stopped_by l.self ≡ None)
    × Stays (to_come g.R.Read.remaining l.initial.self) (to_come g.R.Read.remaining l.self)
    × ((header : PcapHeader) → IsPcap header l.initial.self → l.self ≡ l.initial.self)
    × (counts_of l.self ≡ counts_of l.initial.self)
