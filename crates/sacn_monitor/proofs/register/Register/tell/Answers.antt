use Rattle.std.proofs.Common.{length, ap, arith}
use Rattle.sacn_monitor.proofs.Admitting.{key_of, changed_chained, changed_distinct}
use Rattle.std.proofs.lemmas.List.Elements.{All-set}
use Rattle.sacn_monitor.proofs.Fitting.{HasFitted, fitted_at}
use Rattle.sacn_monitor.proofs.Losses.{quiet_told}
use Rattle.sacn_monitor.specs.Books.{with_told}
use Rattle.sacn_monitor.proofs.register.Register.tell.Goals as goal

pub invariant_of-self : goal.invariant_of-self
invariant_of-self c =
    let r = c.self.inside in
    let same = ap key_of c.index_mut.ensures.value in (
      c.self.invariant.0,
      c.self.invariant.1,
      changed_chained r.streams.items c.args.at (with_told c.index_mut.result.now) c.index_mut.result.now same r.latest.items r.before.items c.self.invariant.2,
      changed_distinct r.streams.items c.args.at (with_told c.index_mut.result.now) c.index_mut.result.now same c.self.invariant.3,
      quiet_told r.quiet_until c.args.at c.index_mut.result.now r.streams.items c.self.invariant.4,
      All-set HasFitted r.streams.items c.args.at (with_told c.index_mut.result.now) (fitted_at c.args.at c.index_mut.result.now r.streams.items (omega (arith, c.requires, ap length c.self.view_is)) c.index_mut.ensures.value c.self.invariant.5) c.self.invariant.5,
    )
