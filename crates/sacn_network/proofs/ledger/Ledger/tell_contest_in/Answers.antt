use Rattle.std.proofs.Common.{ap, refl}
use Rattle.sacn_network.specs.Contests.{contest_in}
use Rattle.sacn_network.proofs.Telling.{told_none}
use Rattle.sacn_network.proofs.ledger.Ledger.tell_contest_in.Goals as goal

pub returns-in_default-clause-told : goal.returns-in_default-clause-told
returns-in_default-clause-told g c =
    told_none {O = g.row.O.Denot} g.O.Observer.Notes c.args.observer.now c.args.observer.now (contest_in c.args.universe c.args.self.now) (ap (λ o. contest_in o c.args.self.now) c.in_default.is) refl
