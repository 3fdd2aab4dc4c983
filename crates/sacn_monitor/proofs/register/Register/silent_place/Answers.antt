use Rattle.std.proofs.Common.{◌≤◌, sym, ap, ◌∙◌, arith}
use Rattle.sacn_monitor.specs.Books.{next_loss, silent_place}
use Rattle.sacn_monitor.proofs.Losses.{silent_later}
use Rattle.sacn_monitor.proofs.register.Register.silent_place.Goals as goal

pub returns-then-moment-self-clause-place : goal.returns-then-moment-self-clause-place
returns-then-moment-self-clause-place c =
    let ss = c.self.inside.streams.items in
    sym (silent_later c.args.moment ss (omega (arith, c.if-moment-self.true, c.self.invariant.4))) ∙ ap (silent_place c.args.moment) c.self.view_is
