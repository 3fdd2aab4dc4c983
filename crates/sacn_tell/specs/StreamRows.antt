-- The row of a source on a universe: for people, and as an object of JSON.
use Rattle.std.specs.Prelude.{ℕ, List, ◌++◌, codes, decimal}
use Rattle.sacn_monitor.specs.declared.stream.Stream.{Stream}
use Rattle.sacn_monitor.specs.declared.stream.StreamState.{StreamState}
use Rattle.sacn_monitor.specs.declared.stream.StreamState.TheVariants.{Sending, Ended, Lost}
use Rattle.sacn_monitor.specs.Kinds.{total}
use Rattle.sacn_monitor.specs.Rates.{last_second}
use Rattle.sacn_monitor.specs.Streams.{state_of}
use Rattle.sacn_tell.specs.declared.options.Form.{Form}
use Rattle.sacn_tell.specs.declared.options.Form.TheVariants.{Text, Json}
use Rattle.sacn_tell.specs.Spelling.{flush_left, moment_text, right, sender_text}
use Rattle.sacn_tell.specs.Members.{name_of, number_member, row_front, sender_members, stream_members, word_member}
use Rattle.sacn_tell.specs.Sentences.{source_text}
use Rattle.sacn_tell.specs.Rows.{column}

abbrev pub state_word : StreamState → List ℕ
state_word Sending = codes "sending"
state_word Ended = codes "ended"
state_word Lost = codes "lost"

unfoldable pub universe_column : ℕ → List ℕ
universe_column universe = right 8 (decimal universe) ++ codes " "

unfoldable pub priority_column : ℕ → List ℕ
priority_column priority = codes " " ++ (right 8 (decimal priority) ++ codes " ")

-- the universe, the state at a moment and the priority
unfoldable pub state_text : ℕ → Stream → List ℕ
state_text moment s = universe_column s.universe ++ (flush_left 8 (state_word (state_of moment s)) ++ priority_column s.account.priority)

-- when it was heard first and last
unfoldable pub moments_text : Stream → List ℕ
moments_text s = moment_text s.account.first ++ (codes " " ++ moment_text s.account.latest)

-- packets taken, those for previews and of other kinds; numbers skipped, packets late and repeated
unfoldable pub packet_columns : Stream → List ℕ
packet_columns s =
    column (total s.account.kinds) ++ (column s.account.kinds.previews ++ (column s.account.kinds.others
    ++ (column s.account.skipped ++ (column s.account.late ++ column s.account.repeats))))

-- the greatest gap between two packets, in milliseconds
unfoldable pub gap_column : ℕ → List ℕ
gap_column gap = codes " " ++ (right 8 (decimal gap) ++ codes "  ")

unfoldable pub place_text : Stream → List ℕ
place_text s = source_text s.cid (name_of s) ++ (codes " at " ++ sender_text s.account.sender)

unfoldable pub stream_text : ℕ → Stream → List ℕ
stream_text moment s = state_text moment s ++ (moments_text s ++ (packet_columns s ++ (gap_column s.account.greatest_gap ++ place_text s)))

-- the packets by kind
unfoldable pub kinds_members : Stream → List ℕ
kinds_members s =
    number_member (codes "live") s.account.kinds.live ++ (number_member (codes "preview") s.account.kinds.previews
    ++ (number_member (codes "terminated") s.account.kinds.terminations ++ number_member (codes "other") s.account.kinds.others))

unfoldable pub numbers_members : Stream → List ℕ
numbers_members s =
    number_member (codes "skipped") s.account.skipped ++ (number_member (codes "late") s.account.late
    ++ (number_member (codes "repeated") s.account.repeats ++ number_member (codes "gap") s.account.greatest_gap))

-- what it is and where it sends from
unfoldable pub origin_members : Stream → List ℕ
origin_members s = stream_members s ++ sender_members s.account.sender

unfoldable pub state_members : ℕ → Stream → List ℕ
state_members moment s =
    word_member (codes "state") (state_word (state_of moment s)) ++ (number_member (codes "priority") s.account.priority
    ++ (number_member (codes "first") s.account.first ++ number_member (codes "last") s.account.latest))

-- the packets of its latest second
unfoldable pub rate_member : ℕ → Stream → List ℕ
rate_member moment s = number_member (codes "last_second") (last_second moment s.account.rate)

unfoldable pub counts_members : ℕ → Stream → List ℕ
counts_members moment s = kinds_members s ++ (numbers_members s ++ rate_member moment s)

unfoldable pub stream_json : ℕ → Stream → List ℕ
stream_json moment s = row_front (codes "source") ++ (origin_members s ++ (state_members moment s ++ (counts_members moment s ++ codes "}")))

abbrev pub stream_row : Form → ℕ → Stream → List ℕ
stream_row Text moment s = stream_text moment s
stream_row Json moment s = stream_json moment s
