use Rattle.std.proofs.Common.{refl, sym, ◌∙◌}
use Rattle.sacn_network.specs.Packets.{news_told}
use Rattle.sacn_network.proofs.Telling.{no_news, told_none}
use Rattle.sacn_network.proofs.ledger.Ledger.tell_news.Goals as goal

pub returns-else-not-tells_nothing : goal.returns-else-not-tells_nothing
returns-else-not-tells_nothing g c =
    told_none {O = g.row.O.Denot} g.O.Observer.Notes c.args.observer.now c.args.observer.now (news_told c.args.place c.args.news.now c.args.self.now)
    (no_news c.args.place c.args.news.now c.args.self.now (sym c.if-not-tells_nothing.ensures)) refl
