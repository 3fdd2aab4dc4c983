use Rattle.std.proofs.Common.{sym, subst}
use Rattle.sacn_monitor.proofs.Fitting.{HasFitted, first_fitted}
use Rattle.sacn_monitor.proofs.monitor.Monitor.admit.Goals as goal

pub admit-requires-clause-fitted : goal.admit-requires-clause-fitted
admit-requires-clause-fitted c = subst HasFitted (sym c.begin.ensures) (first_fitted c.self.inside.moment c.args.sender c.args.packet.now)
