use Rattle.std.proofs.Common.{ap}
use Rattle.sacn_network.specs.LitUniverses.{Lit}
use Rattle.sacn_watch.proofs.Choosing.{chosen_as_asked}
use Rattle.sacn_watch.proofs.view.View.new.Goals as goal

pub returns-clause-universe : goal.returns-clause-universe
returns-clause-universe c =
    chosen_as_asked c.args.universe c.is_some.result c.unwrap_or.result c.in_ok-new-2.field-0.universe c.is_some.ensures c.unwrap_or.ensures (ap (λ (l : Lit). l.universe) c.in_ok-new-2.ensures)
