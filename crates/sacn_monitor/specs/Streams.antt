-- A source on a universe.
use Rattle.std.specs.Prelude.{ℕ, ◌+◌, ◌-◌, ◌^◌, min, Bool, true, false, not, ◌&&◌, ◌||◌, ◌==◌, List, if◌then◌else◌}
use Rattle.std.specs.Str.{bytes_eq}
use Rattle.sacn_packets.specs.Data.{Data}
use Rattle.sacn_sources.specs.declared.limits.TheConstants.{NETWORK_DATA_LOSS}
use Rattle.sacn_monitor.specs.declared.account.Endpoint.{Endpoint}
use Rattle.sacn_monitor.specs.declared.stream.Stream.{Stream}
use Rattle.sacn_monitor.specs.declared.stream.StreamState.{StreamState}
use Rattle.sacn_monitor.specs.declared.stream.StreamState.TheVariants.{Sending, Ended, Lost}
use Rattle.sacn_monitor.specs.Accounts.{is_fresh, first_account, after_packet}

-- the stream of this source on this universe
abbrev pub is_of : ℕ → List ℕ → Stream → Bool
is_of universe cid s = (s.universe == universe) && bytes_eq s.cid cid

-- whether the source sends, at t
abbrev pub state_of : ℕ → Stream → StreamState
state_of t s = if s.account.ended then Ended else (if is_fresh t s.account then Sending else Lost)

abbrev pub first_stream : ℕ → Endpoint → Data → Stream
first_stream t sender d = record { universe = d.universe; cid = d.cid; account = first_account t sender d; told = false }

abbrev pub stream_after : ℕ → Endpoint → Data → Stream → Stream
stream_after t sender d s = record s { account = after_packet t sender d s.account; told = false }

-- the moment at which a silent stream is lost, where that is still to be told; else the last moment of all
abbrev pub loss_of : Stream → ℕ
loss_of s = if s.told || s.account.ended then 2 ^ 64 - 1 else min (s.account.latest + NETWORK_DATA_LOSS) (2 ^ 64 - 1)

-- at t the stream is lost, and that is still to be told
abbrev pub falls_silent : ℕ → Stream → Bool
falls_silent t s = not (s.told || s.account.ended) && not (is_fresh t s.account)
