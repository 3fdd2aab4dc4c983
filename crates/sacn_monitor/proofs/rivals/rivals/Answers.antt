use Rattle.std.proofs.Common.{sym, ap, ◌∙◌, arith}
use Rattle.std.proofs.lemmas.List.{drop_all}
use Rattle.sacn_monitor.proofs.Leading.{leading, all_counted}
use Rattle.sacn_monitor.proofs.rivals.rivals.Goals as goal

pub returns : goal.returns
returns c =
    let l = c.loop-stream in
    let none = drop_all l.stream-index c.args.streams.now (omega (arith, c.loop-stream-test.false)) in
    sym (ap (leading c.args.universe c.args.moment l.top l.count) none) ∙ l.invariant.counted ∙ all_counted c.args.universe c.args.moment c.args.streams.now
