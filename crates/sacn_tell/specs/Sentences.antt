-- What is said for people of each thing that happens.
use Rattle.std.specs.Prelude.{ℕ, ◌/◌, ◌%◌, ◌==◌, List, [], ◌++◌, ◌∷◌, codes, decimal, length, slice_index, if◌then◌else◌}
use Rattle.sacn_packets.specs.declared.root.fault.PacketFault.{PacketFault}
use Rattle.sacn_monitor.specs.declared.account.Endpoint.{Endpoint}
use Rattle.sacn_monitor.specs.declared.news.Change.{Change}
use Rattle.sacn_monitor.specs.declared.news.StreamEvent.{StreamEvent}
use Rattle.sacn_monitor.specs.declared.news.StreamEvent.TheVariants.{GoesOn, Appeared, CameBack, Ended, OutOfSequence, Repeated}
use Rattle.sacn_monitor.specs.declared.stream.Stream.{Stream}
use Rattle.sacn_tell.specs.Spelling.{right, zeros, octets_text, address_text, sender_text, moment_text, name_text}
use Rattle.sacn_tell.specs.declared.event_words.NamedSource.{NamedSource}
use Rattle.sacn_tell.specs.Numbers.{ranges_text}
use Rattle.sacn_tell.specs.Members.{name_of}
use Rattle.sacn_tell.specs.Refusals.{fault_words}

-- the front of a line: the moment in seconds
unfoldable pub line_front : ℕ → List ℕ
line_front moment = moment_text moment ++ codes " s  "

-- a source: its CID and its name
unfoldable pub source_text : List ℕ → List ℕ → List ℕ
source_text cid name = octets_text cid ++ (codes " " ++ name_text name)

unfoldable pub universe_text : ℕ → List ℕ
universe_text universe = codes "universe " ++ (right 5 (decimal universe) ++ codes "  ")

-- the front of a line on a source on a universe
unfoldable pub stream_front : ℕ → Stream → List ℕ
stream_front moment s = line_front moment ++ (universe_text s.universe ++ (source_text s.cid (name_of s) ++ codes "  "))

-- where a source sends from, and its priority
unfoldable pub presence_words : List ℕ → Stream → List ℕ
presence_words word s = word ++ (codes " at " ++ (sender_text s.account.sender ++ (codes ", priority " ++ decimal s.account.priority)))

-- what a packet says of its source
abbrev pub event_words : StreamEvent → Stream → List ℕ
event_words GoesOn s = []
event_words Appeared s = presence_words (codes "appears") s
event_words CameBack s = presence_words (codes "is back") s
event_words Ended s = codes "ends its stream"
event_words OutOfSequence s = codes "a packet out of sequence, discarded"
event_words Repeated s = codes "a packet comes again, discarded"

-- the key of an event in JSON
abbrev pub event_key : StreamEvent → List ℕ
event_key GoesOn = codes "goes_on"
event_key Appeared = codes "appeared"
event_key CameBack = codes "came_back"
event_key Ended = codes "ended"
event_key OutOfSequence = codes "out_of_sequence"
event_key Repeated = codes "repeated"

-- where a source sends from now
unfoldable pub moved_words : Endpoint → List ℕ
moved_words s = codes "now sends from " ++ sender_text s

-- the moment of the last packet of a source that is lost (E1.31, 6.7.1)
unfoldable pub silence_words : Stream → List ℕ
silence_words s = codes "is lost: silent since " ++ (decimal (s.account.latest / 1000) ++ (codes "." ++ (zeros 3 (decimal (s.account.latest % 1000)) ++ codes " s")))

-- that, and from where that packet came and its priority
abbrev pub loss_words : Stream → List ℕ
loss_words s = silence_words s ++ presence_words (codes ", last") s

-- milliseconds as seconds: a point and three places
unfoldable pub seconds_text : ℕ → List ℕ
seconds_text millis = decimal (millis / 1000) ++ (codes "." ++ zeros 3 (decimal (millis % 1000)))

unfoldable pub stopped_words : ℕ → List ℕ
stopped_words millis = seconds_text millis ++ codes " s: this program was stopped"

-- for how many milliseconds nothing was heard, since this program didn't run
unfoldable pub stop_words : ℕ → List ℕ
stop_words millis = codes "not heard for " ++ stopped_words millis

unfoldable pub priority_words : Change → List ℕ
priority_words c = codes "priority " ++ (decimal c.to ++ (codes ", before " ++ decimal c.from))

unfoldable pub omission_words : ℕ → List ℕ
omission_words number = codes "leaves out number " ++ (decimal number ++ codes " at each turn, which isn't counted as skipped")

unfoldable pub skipped_words : ℕ → List ℕ
skipped_words skipped = if skipped == 1 then codes "skipped 1 number" else codes "skipped " ++ (decimal skipped ++ codes " numbers")

-- why a datagram is no packet
unfoldable pub refusal_words : PacketFault → List ℕ
refusal_words fault = codes "  refused: " ++ fault_words fault

-- the same, and where it came from
unfoldable pub refused_words : Endpoint → PacketFault → List ℕ
refused_words s fault = codes "from " ++ (sender_text s ++ refusal_words fault)

-- where a packet came from for which there is no room
unfoldable pub untracked_words : Endpoint → List ℕ
untracked_words s = codes "from " ++ (sender_text s ++ codes "  no room for a further source, not followed")

-- a CID by its first two octets and its last one
unfoldable pub short_cid : List ℕ → List ℕ
short_cid cid = octets_text (slice_index cid 0 ∷ slice_index cid 1 ∷ []) ++ (codes ".." ++ octets_text (slice_index cid 15 ∷ []))

-- the priorities from a lowest one to a highest
unfoldable pub priorities_words : ℕ → ℕ → List ℕ
priorities_words lowest highest = if lowest == highest then codes "priority " ++ decimal lowest else codes "priorities " ++ (decimal lowest ++ (codes "-" ++ decimal highest))

-- universes, as ranges where there are several
unfoldable pub universes_words : List ℕ → List ℕ
universes_words universes = (if length universes == 1 then codes "universe " else codes "universes ") ++ ranges_text universes

-- a source, its name first, and where it sends from
unfoldable pub named_sender : NamedSource → List ℕ
named_sender s = name_text s.name.now ++ (codes " " ++ (short_cid s.cid.now ++ (codes " at " ++ address_text s.address)))

-- a source on some of its universes, its name first, and what became of it
unfoldable pub named_source_words : NamedSource → List ℕ → List ℕ
named_source_words s word = named_sender s ++ (codes ", " ++ (priorities_words s.lowest s.highest ++ (codes ", " ++ (universes_words s.universes.now ++ (codes ": " ++ word)))))
