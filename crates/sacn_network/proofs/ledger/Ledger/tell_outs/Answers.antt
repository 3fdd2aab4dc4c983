use Rattle.std.proofs.Common.{length, arith}
use Rattle.sacn_network.proofs.Ending.{one_more_out, outs_all, outs_ledger}
use Rattle.sacn_network.proofs.ledger.Ledger.tell_outs.Goals as goal

pub loop-place-preserved : goal.loop-place-preserved
loop-place-preserved g c =
    one_more_out {O = g.row.O.Denot} g.O.Observer.Notes c.args.before c.args.self.now c.args.observer.now (length c.streams-count.result.now) c.loop-place.place c.out_universe-universe.result c.loop-place.self c.tell_contest_in.new.self
    c.loop-place.observer c.tell_contest_in.new.observer (omega (arith, c.loop-place-test.true)) c.out_universe-universe.ensures c.tell_contest_in.ensures.ledger c.tell_contest_in.ensures.told c.loop-place.invariant

pub returns-clause-told : goal.returns-clause-told
returns-clause-told g c =
    outs_all {O = g.row.O.Denot} g.O.Observer.Notes c.args.before c.args.self.now c.args.observer.now (length c.streams-count.result.now) c.loop-place.place c.loop-place.self c.loop-place.observer
    (omega (arith, c.loop-place-test.false)) c.loop-place.invariant

pub returns-clause-ledger : goal.returns-clause-ledger
returns-clause-ledger g c =
    outs_ledger {O = g.row.O.Denot} g.O.Observer.Notes c.args.before c.args.self.now c.args.observer.now (length c.streams-count.result.now) c.loop-place.place c.loop-place.self c.loop-place.observer
    (omega (arith, c.loop-place-test.false)) c.loop-place.invariant
