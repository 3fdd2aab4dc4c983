use Rattle.std.proofs.Common.{◌∷◌, [], ◌++◌, List, refl, sym, ap, subst, ◌∙◌, append-nil, length}
use Rattle.std.specs.List.{flat_map}
use Rattle.sacn_record.specs.Recordings.{Taken, datagram_block}
use Rattle.sacn_record.specs.Laws.{AllFit}
use Rattle.sacn_record.specs.Hearing.{datagram_at}
use Rattle.sacn_record.specs.Sessions.{counted_on}
use Rattle.sacn_record.proofs.Rounds.{asked_none, asked_one, one_block}
use Rattle.sacn_record.proofs.session.add.Goals as goal

pub returns-then-not-is_asked-clause-blocks : goal.returns-then-not-is_asked-clause-blocks
returns-then-not-is_asked-clause-blocks c =
    let e = asked_none c.args.plan.now (datagram_at c.args.arrived.now c.args.payload.now) c.read_packet-reading.result c.is_asked.result c.read_packet-reading.ensures.exact c.is_asked.ensures c.if-not-is_asked.true in
    sym (ap (λ (ts : List Taken). c.args.waiting.now.blocks.items ++ flat_map datagram_block ts) e ∙ append-nil c.args.waiting.now.blocks.items)

pub returns-then-not-is_asked-clause-count : goal.returns-then-not-is_asked-clause-count
returns-then-not-is_asked-clause-count c =
    let e = asked_none c.args.plan.now (datagram_at c.args.arrived.now c.args.payload.now) c.read_packet-reading.result c.is_asked.result c.read_packet-reading.ensures.exact c.is_asked.ensures c.if-not-is_asked.true in
    sym (ap (λ (ts : List Taken). counted_on c.args.waiting.now.count (length ts)) e)

pub returns-then-not-is_asked-clause-fits : goal.returns-then-not-is_asked-clause-fits
returns-then-not-is_asked-clause-fits c =
    let e = asked_none c.args.plan.now (datagram_at c.args.arrived.now c.args.payload.now) c.read_packet-reading.result c.is_asked.result c.read_packet-reading.ensures.exact c.is_asked.ensures c.if-not-is_asked.true in
    subst AllFit (sym e) tt

pub returns-clause-blocks : goal.returns-clause-blocks
returns-clause-blocks c =
    let e = asked_one c.args.plan.now (datagram_at c.args.arrived.now c.args.payload.now) c.read_packet-reading.result c.is_asked.result c.destination.result c.read_packet-reading.ensures.exact c.is_asked.ensures c.if-not-is_asked.false c.destination.ensures in
    one_block c.args.waiting.now.blocks.items c.record.new.writer.items _ _ e c.in_ok-record.ensures.all

pub returns-clause-count : goal.returns-clause-count
returns-clause-count c =
    let e = asked_one c.args.plan.now (datagram_at c.args.arrived.now c.args.payload.now) c.read_packet-reading.result c.is_asked.result c.destination.result c.read_packet-reading.ensures.exact c.is_asked.ensures c.if-not-is_asked.false c.destination.ensures in
    c.one_more-waiting.ensures ∙ sym (ap (λ (ts : List Taken). counted_on c.args.waiting.now.count (length ts)) e)

pub returns-clause-fits : goal.returns-clause-fits
returns-clause-fits c =
    let e = asked_one c.args.plan.now (datagram_at c.args.arrived.now c.args.payload.now) c.read_packet-reading.result c.is_asked.result c.destination.result c.read_packet-reading.ensures.exact c.is_asked.ensures c.if-not-is_asked.false c.destination.ensures in
    subst AllFit (sym e) (c.record.ensures.fits, tt)
