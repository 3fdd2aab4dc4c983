use Rattle.std.proofs.Common.{◌==◌, List, filter, sym, ap, ◌∙◌, arith}
use Rattle.std.proofs.lemmas.List.{drop_all}
use Rattle.std.specs.List.{fold}
use Rattle.sacn_monitor.specs.declared.stream.Stream.{Stream}
use Rattle.sacn_tell.specs.Amounts.{with_stream}
use Rattle.sacn_tell.proofs.Amounts.{amount_is}
use Rattle.sacn_tell.proofs.table_rows.UniverseCounts.of.Goals as goal

pub returns : goal.returns
returns c =
    let none = drop_all c.loop-stream.stream-index c.args.streams.now (omega (arith, c.loop-stream-test.false)) in
    sym (ap (λ (ss : List Stream). fold (with_stream c.args.moment) c.loop-stream.counts (filter (λ s. s.universe == c.args.universe) ss)) none)
    ∙ c.loop-stream.invariant
    ∙ amount_is c.args.moment (filter (λ s. s.universe == c.args.universe) c.args.streams.now)
