use Rattle.std.proofs.Common.{◌≡◌, ◌==◌, drop, filter}
use Rattle.std.specs.List.{fold}
use Rattle.sacn_tell.specs.Amounts.{with_stream}
use Rattle.sacn_tell.proofs.Amounts.{no_counts}
use Rattle.sacn_tell.proofs.table_rows.UniverseCounts.of.Given as goal

-- the counts so far, with the rest of the streams, are those of all
abbrev pub invariant-loop-stream : goal.invariant-loop-stream
invariant-loop-stream l =
    fold (with_stream l.moment) l.counts (filter (λ s. s.universe == l.universe) (drop l.stream-index l.streams))
    ≡ fold (with_stream l.moment) no_counts (filter (λ s. s.universe == l.universe) l.streams)
