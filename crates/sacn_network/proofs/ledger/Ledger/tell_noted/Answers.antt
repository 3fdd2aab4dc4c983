use Rattle.std.proofs.Common.{ap, refl, sym, ◌∙◌, slice_get}
use Rattle.sacn_network.specs.Packets.{noted_told, stirred_universe}
use Rattle.sacn_network.proofs.Telling.{heard_told, no_page, told_none}
use Rattle.sacn_network.proofs.ledger.Ledger.tell_noted.Goals as goal

pub returns-in-Page-clause-told : goal.returns-in-Page-clause-told
returns-in-Page-clause-told g c =
    told_none {O = g.row.O.Denot} g.O.Observer.Notes c.args.observer.now c.args.observer.now (noted_told c.args.sender c.args.noted c.args.self.now) (no_page c.args.sender c.args.noted c.args.self.now c.in-Page.is) refl

pub returns-in-Heard-clause-told : goal.returns-in-Heard-clause-told
returns-in-Heard-clause-told g c =
    let n = c.args.self.now in
    let universe = c.stirred_universe-universe.ensures ∙ ap (λ ss. stirred_universe (slice_get ss c.in-Heard.place) c.in-Heard.news) c.streams.ensures in
    heard_told {O = g.row.O.Denot} g.O.Observer.Notes c.args.sender c.in-Heard.place c.in-Heard.news c.args.noted n c.args.observer.now c.tell_news.new.observer c.tell_stirred.new.observer c.in-Heard.is
    c.tell_news.ensures (rw universe at c.tell_stirred.ensures.told)
