use Rattle.std.proofs.Common.{◌<◌, ◌∙◌, length, max, ap, arith, subst, sym}
use Rattle.sacn_monitor.specs.Books.{Book, with_datagram}
use Rattle.sacn_network.specs.declared.ledger.Ledger.{Ledger}
use Rattle.sacn_network.specs.LightEnds.{first_end}
use Rattle.sacn_network.specs.Networks.{LeavesNone, handed, note_of, tick_told, ticked}
use Rattle.sacn_network.specs.Packets.{noted_told}
use Rattle.sacn_network.proofs.Telling.{told_both}
use Rattle.sacn_network.proofs.Tracking.{read_moment}
use Rattle.sacn_network.proofs.Waking.{noted_keeps}
use Rattle.sacn_network.proofs.network.Network.take.Goals as goal

pub invariant_of-self : goal.invariant_of-self
invariant_of-self g c =
    let is = c.tell_noted.ensures.ledger in
    let kept = noted_keeps c.hand-noted.result c.self.inside.ledger in (
      omega (arith, c.self.invariant.0, ap (λ (n : Ledger). first_end n.monitor) is, ap first_end kept),
      omega (arith, c.self.invariant.1, ap (λ (n : Ledger). length n.monitor.streams) is, ap (λ (b : Book). length b.streams) kept),
    )

pub returns-clause-clock : goal.returns-clause-clock
returns-clause-clock g c =
    let moment : Ledger → _ = λ n. n.monitor.moment in
    ap moment c.tell_noted.ensures.ledger ∙ ap (λ (b : Book). b.moment) (noted_keeps c.hand-noted.result c.self.inside.ledger) ∙ ap moment c.self.view_is ∙ ap moment c.hand-noted.ensures.network
    ∙ read_moment c.args.sender (with_datagram c.args.now c.tick.new.self.monitor) c.args.reading.now ∙ ap (λ k. max k c.args.now) c.tick.ensures.clock ∙ omega arith

pub returns-clause-silent : goal.returns-clause-silent
returns-clause-silent g c = subst (LeavesNone (max c.args.self.now.monitor.moment c.args.now)) c.tick.ensures.network c.tick.ensures.silent

pub returns-clause-told : goal.returns-clause-told
returns-clause-told g c =
    let m : Ledger = ticked c.args.now c.args.self.now in
    let noted = c.hand-noted.ensures.noted ∙ ap (note_of c.args.now c.args.sender c.args.reading.now) c.tick.ensures.network in
    let hands = c.self.view_is ∙ c.hand-noted.ensures.network ∙ ap (handed c.args.now c.args.sender c.args.reading.now) c.tick.ensures.network in
    told_both {O = g.row.O.Denot} g.O.Observer.Notes (tick_told c.args.now c.args.self.now) (noted_told c.args.sender (note_of c.args.now c.args.sender c.args.reading.now m) (handed c.args.now c.args.sender c.args.reading.now m))
    c.args.observer.now c.tick.new.observer c.tell_noted.new.observer c.tick.ensures.told (rw (noted, hands) at c.tell_noted.ensures.told)
