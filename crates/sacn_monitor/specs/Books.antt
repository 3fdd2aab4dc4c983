-- What a monitor keeps, and the steps that its calls make.
use Rattle.std.specs.Prelude.{ℕ, ◌+◌, ◌-◌, ◌^◌, min, max, nat_lt, Bool, true, false, List, [], ◌∷◌, ◌++◌, length, slice_get, slice_set, Option, Some, None, Result, Ok, Err, if◌then◌else◌}
use Rattle.std.specs.List.{position}
use Rattle.sacn_packets.specs.declared.root.fault.PacketFault.{PacketFault}
use Rattle.sacn_packets.specs.Data.{Data}
use Rattle.sacn_packets.specs.declared.framing.packet.Packet.{Packet}
use Rattle.sacn_packets.specs.declared.framing.packet.Packet.TheVariants.{DataPacket, PagePacket, SyncPacket}
use Rattle.sacn_packets.specs.PacketReading.{reading_packet}
use Rattle.sacn_monitor.specs.declared.account.Account.{Account}
use Rattle.sacn_monitor.specs.declared.account.Endpoint.{Endpoint}
use Rattle.sacn_monitor.specs.declared.stream.Stream.{Stream}
use Rattle.sacn_monitor.specs.declared.tally.Tally.{Tally}
use Rattle.sacn_monitor.specs.declared.news.Noted.{Noted}
use Rattle.sacn_monitor.specs.declared.news.Noted.TheVariants.{Refused, Page, Sync, Untracked, Heard}
use Rattle.sacn_monitor.specs.declared.limits.TheConstants.{MAX_STREAMS}
use Rattle.sacn_monitor.specs.Kinds.{more}
use Rattle.sacn_monitor.specs.Holdings.{light_end}
use Rattle.sacn_monitor.specs.Accounts.{first_event, quiet, news_of}
use Rattle.sacn_monitor.specs.Streams.{is_of, first_stream, stream_after, loss_of, falls_silent}
use Rattle.sacn_monitor.specs.Tallies.{nothing_tallied, refused_more}

-- the streams in the order in which they appeared, the greatest moment handed in, and the counts
pub record Book : Type 0 where
  pub streams : List Stream
  pub moment : ℕ
  pub tally : Tally

abbrev pub new_book : Book
new_book = record { streams = []; moment = 0; tally = nothing_tallied }

-- the place of the stream of a source on a universe
abbrev pub place_of : ℕ → List ℕ → List Stream → Option ℕ
place_of universe cid ss = position (is_of universe cid) ss

-- the stream at a place
abbrev pub changed : (Stream → Stream) → ℕ → List Stream → Option Stream → List Stream
changed f i ss None = ss
changed f i ss (Some s) = slice_set ss i (f s)

abbrev pub change_at : (Stream → Stream) → ℕ → List Stream → List Stream
change_at f i ss = changed f i ss (slice_get ss i)

-- ---- a data packet

abbrev pub news_at : ℕ → Endpoint → Data → ℕ → Option Stream → Noted
news_at t sender d i None = Untracked
news_at t sender d i (Some s) = Heard i (news_of t sender d s.account)

unfoldable pub noted_data : Endpoint → Data → Book → Option ℕ → Noted
noted_data sender d b None = if nat_lt (length b.streams) MAX_STREAMS then Heard (length b.streams) (quiet (first_event d.terminated)) else Untracked
noted_data sender d b (Some i) = news_at b.moment sender d i (slice_get b.streams i)

abbrev pub untracked : Book → Book
untracked b = record b { tally = record b.tally { untracked = more 1 b.tally.untracked } }

unfoldable pub after_data : Endpoint → Data → Book → Option ℕ → Book
after_data sender d b None = if nat_lt (length b.streams) MAX_STREAMS then record b { streams = b.streams ++ first_stream b.moment sender d ∷ [] } else untracked b
after_data sender d b (Some i) = record b { streams = change_at (stream_after b.moment sender d) i b.streams }

-- ---- a datagram, by its one reading

abbrev pub noted_packet : Endpoint → Book → Result Packet PacketFault → Noted
noted_packet sender b (Ok (DataPacket d)) = noted_data sender d b (place_of d.universe d.cid b.streams)
noted_packet sender b (Ok (PagePacket p)) = Page
noted_packet sender b (Ok SyncPacket) = Sync
noted_packet sender b (Err fault) = Refused fault

abbrev pub after_read : Endpoint → Book → Result Packet PacketFault → Book
after_read sender b (Ok (DataPacket d)) = after_data sender d b (place_of d.universe d.cid b.streams)
after_read sender b (Ok (PagePacket p)) = record b { tally = record b.tally { pages = more 1 b.tally.pages } }
after_read sender b (Ok SyncPacket) = record b { tally = record b.tally { syncs = more 1 b.tally.syncs } }
after_read sender b (Err fault) = record b { tally = refused_more fault b.tally }

-- the clock at the greater moment, and one datagram more
abbrev pub with_datagram : ℕ → Book → Book
with_datagram now b = record b { moment = max b.moment now; tally = record b.tally { datagrams = more 1 b.tally.datagrams } }

abbrev pub note_of : ℕ → Endpoint → List ℕ → Book → Noted
note_of now sender octets b = noted_packet sender (with_datagram now b) (reading_packet octets)

abbrev pub after_take : ℕ → Endpoint → List ℕ → Book → Book
after_take now sender octets b = after_read sender (with_datagram now b) (reading_packet octets)

-- ---- silence

-- the first moment at which a stream is lost whose loss is still to be told
abbrev pub next_loss : List Stream → ℕ
next_loss [] = 2 ^ 64 - 1
next_loss (s ∷ ss) = min (loss_of s) (next_loss ss)

-- the first moment at which levels that are held at t are lost where no packet comes
abbrev pub next_light_end : ℕ → List Stream → ℕ
next_light_end t [] = 2 ^ 64 - 1
next_light_end t (s ∷ ss) = min (light_end t s.account.holding) (next_light_end t ss)

-- the place of the first stream that is lost, and of which that is still to be told
abbrev pub silent_place : ℕ → List Stream → Option ℕ
silent_place t ss = position (falls_silent t) ss

abbrev pub with_told : Stream → Stream
with_told s = record s { told = true }

abbrev pub told_at : Option ℕ → List Stream → List Stream
told_at None ss = ss
told_at (Some i) ss = change_at with_told i ss

abbrev pub after_tick : ℕ → Book → Book
after_tick now b = let t = max b.moment now in record b { streams = told_at (silent_place t b.streams) b.streams; moment = t }
