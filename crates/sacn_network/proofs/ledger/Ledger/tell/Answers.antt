use Rattle.sacn_network.specs.Telling.{told_now}
use Rattle.sacn_network.proofs.Telling.{told_one}
use Rattle.sacn_network.proofs.ledger.Ledger.tell.Goals as goal

pub returns : goal.returns
returns g c =
    told_one {O = g.row.O.Denot} g.O.Observer.Notes (told_now c.args.what c.args.self.now.monitor) c.args.observer.now c.observe.new.self (rw c.moment-at.ensures at c.observe.ensures.told)
