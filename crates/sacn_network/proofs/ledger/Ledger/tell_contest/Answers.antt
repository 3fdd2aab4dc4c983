use Rattle.std.proofs.Common.{refl, sym, ap, ◌∙◌}
use Rattle.sacn_network.specs.Contests.{contest_told, is_contested}
use Rattle.sacn_network.specs.Sets.{has_bit, is_otherwise}
use Rattle.sacn_network.proofs.Telling.{no_contest, told_none}
use Rattle.sacn_network.proofs.ledger.Ledger.tell_contest.Goals as goal

pub returns-then-not-mark-clause-told : goal.returns-then-not-mark-clause-told
returns-then-not-mark-clause-told g c =
    told_none {O = g.row.O.Denot} g.O.Observer.Notes c.args.observer.now c.args.observer.now (contest_told c.args.universe c.args.self.now)
    (no_contest c.args.universe c.args.self.now (sym (rw c.rivals-sources.ensures at c.if-not-mark.ensures.answer))) refl
