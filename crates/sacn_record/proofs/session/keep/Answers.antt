use Rattle.std.proofs.Common.{sym, ◌∙◌, arith}
use Rattle.sacn_record.proofs.Rounds.{kept_none, kept_here, kept_anew}
use Rattle.sacn_record.proofs.session.keep.Goals as goal

pub returns-then-waiting-eq0-clause-kept : goal.returns-then-waiting-eq0-clause-kept
returns-then-waiting-eq0-clause-kept g c = λ ts blocks counts.
    kept_none c.args.plan.now c.args.begun c.args.totals.now.millis (g.T.Tapes.told c.args.tapes.now) c.args.waiting.now.blocks.items c.args.waiting.now.count c.args.totals.now.datagrams c.args.totals.now.octets ts blocks counts (omega (arith, c.if-waiting-eq0.true))

pub returns-then-is_full-clause-kept : goal.returns-then-is_full-clause-kept
returns-then-is_full-clause-kept g c = λ ts blocks counts.
    let done = c.in_ok-keep_anew.ensures in
    let new = c.keep_anew.new in
    let k = kept_anew c.args.plan.now c.args.begun c.args.totals.now.millis (g.T.Tapes.told c.args.tapes.now) (g.T.Tapes.told new.tapes) c.args.waiting.now.blocks.items c.args.waiting.now.count c.args.totals.now.datagrams new.totals.datagrams c.args.totals.now.octets new.totals.octets ts blocks counts (omega (arith, c.if-waiting-eq0.false)) (sym c.is_full.ensures ∙ c.if-is_full.true) done.put done.datagrams done.octets in
    (k.0, c.keep_anew.ensures.millis ∙ k.1, done.none.0, done.none.1, k.2, k.3)

pub returns-clause-kept : goal.returns-clause-kept
returns-clause-kept g c = λ ts blocks counts.
    let done = c.in_ok-put.ensures in
    let new = c.put.new in
    let k = kept_here c.args.plan.now c.args.begun c.args.totals.now.millis (g.T.Tapes.told c.args.tapes.now) (g.T.Tapes.told new.tapes) c.args.waiting.now.blocks.items c.args.waiting.now.count c.args.totals.now.datagrams new.totals.datagrams c.args.totals.now.octets new.totals.octets ts blocks counts (omega (arith, c.if-waiting-eq0.false)) (sym c.is_full.ensures ∙ c.if-is_full.false) done.put done.datagrams done.octets in
    (k.0, k.1, done.none.0, done.none.1, k.2, k.3)
