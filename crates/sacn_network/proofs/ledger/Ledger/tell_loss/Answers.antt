use Rattle.std.proofs.Common.{ap, refl, sym, ◌∙◌, Option, ℕ, slice_get}
use Rattle.sacn_monitor.specs.declared.stream.Stream.{Stream}
use Rattle.sacn_network.specs.declared.occurrence.What.TheVariants.{Lost}
use Rattle.sacn_network.specs.Contests.{contest_in, universe_of}
use Rattle.sacn_network.specs.Losses.{loss_told}
use Rattle.sacn_network.specs.Packets.{now_told}
use Rattle.sacn_network.proofs.Telling.{told_as, told_both, told_none}
use Rattle.sacn_network.proofs.ledger.Ledger.tell_loss.Goals as goal

pub returns-in-Some-clause-told : goal.returns-in-Some-clause-told
returns-in-Some-clause-told g c =
    let n = c.args.self.now in
    let universe = c.universe_at-universe.ensures ∙ ap (λ (ss : _). universe_of (slice_get ss c.in-Some.place)) c.streams.ensures in
    told_as {O = g.row.O.Denot} g.O.Observer.Notes _ (loss_told c.args.lost n) c.args.observer.now c.tell_contest_in.new.observer (sym (ap (λ (o : Option ℕ). loss_told o n) c.in-Some.is))
    (told_both {O = g.row.O.Denot} g.O.Observer.Notes (now_told (Lost c.in-Some.place) n) (contest_in (universe_of (slice_get n.monitor.streams c.in-Some.place)) n) c.args.observer.now c.tell.new.observer c.tell_contest_in.new.observer
    c.tell.ensures (rw universe at c.tell_contest_in.ensures.told))

pub returns-in_default-clause-told : goal.returns-in_default-clause-told
returns-in_default-clause-told g c =
    told_none {O = g.row.O.Denot} g.O.Observer.Notes c.args.observer.now c.args.observer.now (loss_told c.args.lost c.args.self.now) (ap (λ o. loss_told o c.args.self.now) c.in_default.is) refl
