use Rattle.std.proofs.Common.{◌∷◌, sym, subst, ap, ◌∙◌}
use Rattle.sacn_monitor.specs.Histories.{Tick}
use Rattle.sacn_tell.specs.Following.{Follows}
use Rattle.sacn_network.specs.declared.ledger.Ledger.{Ledger}
use Rattle.sacn_watch.specs.Views.{shown_of}
use Rattle.sacn_watch.proofs.Following.{whatever}
use Rattle.sacn_watch.proofs.Choosing.{look_shown}
use Rattle.sacn_watch.proofs.sized_screen.ScreenWatcher.end.Goals as goal

pub returns : goal.returns
returns g c =
    record {
      handed = whatever c.leave.result
          (λ calls was.
          let ended = c.in_ok-end.ensures.handed calls was in
          record {
            book = subst (Follows (Tick c.args.now ∷ calls)) (sym (ap (λ (n : Ledger). n.monitor) c.leave.ensures.network)) ended.book;
            moment = ap (λ (n : Ledger). n.monitor.moment) c.leave.ensures.network ∙ ended.moment;
            shown = look_shown (Tick c.args.now ∷ calls) c.args.now (shown_of c.end.new.self.view) (shown_of c.leave.new.self.view) ended.shown c.leave.ensures.looked;
          });
    }
