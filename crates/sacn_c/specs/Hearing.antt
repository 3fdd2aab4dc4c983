-- What C is told of a datagram that a monitor hears, and of a source on a universe.
use Rattle.std.specs.Prelude.{ℕ, replicate, Option, Some, None}
use Rattle.sacn_packets.specs.PacketFaults.{fault_number}
use Rattle.sacn_monitor.specs.declared.account.Endpoint.{Endpoint}
use Rattle.sacn_monitor.specs.declared.news.Change.{Change}
use Rattle.sacn_monitor.specs.declared.news.StreamEvent.{StreamEvent}
use Rattle.sacn_monitor.specs.declared.news.StreamEvent.TheVariants.{GoesOn, Appeared, CameBack, Ended, OutOfSequence, Repeated}
use Rattle.sacn_monitor.specs.declared.news.News.{News}
use Rattle.sacn_monitor.specs.declared.news.Noted.{Noted}
use Rattle.sacn_monitor.specs.declared.news.Noted.TheVariants.{Refused, Page, Sync, Untracked, Heard}
use Rattle.sacn_monitor.specs.declared.stream.StreamState.{StreamState}
use Rattle.sacn_monitor.specs.declared.stream.StreamState.TheVariants as state
use Rattle.sacn_monitor.specs.declared.stream.Stream.{Stream}
use Rattle.sacn_monitor.specs.Rates.{last_second}
use Rattle.sacn_monitor.specs.Streams.{state_of}
use Rattle.sacn_c.specs.Packets.{bit_of}
use Rattle.sacn_c.specs.declared.news.NewsFields.{NewsFields}
use Rattle.sacn_c.specs.declared.news.SenderFields.{SenderFields}
use Rattle.sacn_c.specs.declared.news.StreamFields.{StreamFields}
use Rattle.sacn_c.specs.declared.status.TheConstants.{DONE}

abbrev pub sender_of : SenderFields → Endpoint
sender_of fields = record { address = fields.address; port = fields.port }

-- the status: the fault of a datagram that is no packet
abbrev pub noted_status : Noted → ℕ
noted_status (Refused fault) = fault_number fault
noted_status Page = DONE
noted_status Sync = DONE
noted_status Untracked = DONE
noted_status (Heard place news) = DONE

abbrev pub noted_number : Noted → ℕ
noted_number (Refused fault) = 0
noted_number Page = 1
noted_number Sync = 2
noted_number Untracked = 3
noted_number (Heard place news) = 4

abbrev pub event_number : StreamEvent → ℕ
event_number GoesOn = 1
event_number Appeared = 2
event_number CameBack = 3
event_number Ended = 4
event_number OutOfSequence = 5
event_number Repeated = 6

-- a priority before and after its change, 0 where it didn't change
abbrev pub priority_from : Option Change → ℕ
priority_from None = 0
priority_from (Some change) = change.from

abbrev pub priority_to : Option Change → ℕ
priority_to None = 0
priority_to (Some change) = change.to

abbrev pub nothing_told : ℕ → NewsFields
nothing_told noted = record { place = 0; noted = noted; event = 0; skipped = 0; began_anew = 0; renamed = 0; moved = 0; priority_from = 0; priority_to = 0 }

abbrev pub heard_told : ℕ → News → NewsFields
heard_told place news = record {
  place = place;
  noted = 4;
  event = event_number news.event;
  skipped = news.skipped;
  began_anew = bit_of news.began_anew;
  renamed = bit_of news.renamed;
  moved = bit_of news.moved;
  priority_from = priority_from news.priority;
  priority_to = priority_to news.priority;
}

-- no packet, a page, a synchronization packet, a data packet of a pair without an account, and one with
abbrev pub news_told : Noted → NewsFields
news_told (Refused fault) = nothing_told 0
news_told Page = nothing_told 1
news_told Sync = nothing_told 2
news_told Untracked = nothing_told 3
news_told (Heard place news) = heard_told place news

abbrev pub state_number : StreamState → ℕ
state_number state.Sending = 1
state_number state.Ended = 2
state_number state.Lost = 3

-- the account of a source on a universe, at t
abbrev pub stream_told : ℕ → Stream → StreamFields
stream_told t s = record {
  first = s.account.first;
  latest = s.account.latest;
  live = s.account.kinds.live;
  previews = s.account.kinds.previews;
  terminations = s.account.kinds.terminations;
  others = s.account.kinds.others;
  skipped = s.account.skipped;
  late = s.account.late;
  repeats = s.account.repeats;
  greatest_gap = s.account.greatest_gap;
  last_second = last_second t s.account.rate;
  universe = s.universe;
  port = s.account.sender.port;
  address = s.account.sender.address;
  priority = s.account.priority;
  number = s.account.sequence_number;
  state = state_number (state_of t s);
  unused = 0;
  unused_too = replicate 4 0;
  cid = s.cid;
  name = s.account.name;
}
