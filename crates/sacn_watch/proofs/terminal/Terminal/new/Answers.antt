use Rattle.std.proofs.Common.{ap}
use Rattle.sacn_monitor.specs.Books.{Book}
use Rattle.sacn_watch.proofs.Choosing.{started}
use Rattle.sacn_watch.proofs.terminal.Terminal.new.Goals as goal

pub returns-clause-nothing : goal.returns-clause-nothing
returns-clause-nothing g c =
    let view = c.in_ok-new.ensures in
    record {
      book = view.nothing;
      moment = ap (λ (b : Book). b.moment) view.nothing;
      shown = started c.args.universe _ _ _ view.universe view.sources view.unheard;
    }
