-- What the streams of one universe amount to.
use Rattle.std.specs.Prelude.{ℕ, ◌-◌, ◌+◌, ◌^◌, ◌==◌, min, List, filter}
use Rattle.std.specs.List.{sum_by}
use Rattle.sacn_monitor.specs.declared.stream.Stream.{Stream}
use Rattle.sacn_monitor.specs.declared.stream.StreamState.{StreamState}
use Rattle.sacn_monitor.specs.declared.stream.StreamState.TheVariants.{Sending, Ended, Lost}
use Rattle.sacn_monitor.specs.Kinds.{more, total}
use Rattle.sacn_monitor.specs.Streams.{state_of}
use Rattle.sacn_tell.specs.declared.table_rows.UniverseCounts.{UniverseCounts}

-- one where the source sends
abbrev pub sending_in : StreamState → ℕ
sending_in Sending = 1
sending_in Ended = 0
sending_in Lost = 0

-- the sum over streams, at most what 64 bits hold
abbrev pub in_all : (Stream → ℕ) → List Stream → ℕ
in_all f ss = min (sum_by f ss) (2 ^ 64 - 1)

-- the counts of streams, at t
abbrev pub amount : ℕ → List Stream → UniverseCounts
amount t ss = record {
  sources = in_all (λ s. 1) ss;
  sending = in_all (λ s. sending_in (state_of t s)) ss;
  taken = in_all (λ s. total s.account.kinds) ss;
  skipped = in_all (λ s. s.account.skipped) ss;
  discarded = in_all (λ s. s.account.late + s.account.repeats) ss;
}

-- those of one universe
abbrev pub counts_of : ℕ → ℕ → List Stream → UniverseCounts
counts_of universe t ss = amount t (filter (λ s. s.universe == universe) ss)

-- with one stream more
abbrev pub with_stream : ℕ → UniverseCounts → Stream → UniverseCounts
with_stream t c s = record {
  sources = more 1 c.sources;
  sending = more (sending_in (state_of t s)) c.sending;
  taken = more (total s.account.kinds) c.taken;
  skipped = more s.account.skipped c.skipped;
  discarded = more (more s.account.repeats s.account.late) c.discarded;
}
