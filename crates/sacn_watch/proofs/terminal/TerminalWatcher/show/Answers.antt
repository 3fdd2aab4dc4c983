use Rattle.std.proofs.Common.{sym, subst, ap, ◌∙◌, ◌∷◌}
use Rattle.sacn_monitor.specs.Histories.{Tick}
use Rattle.sacn_tell.specs.Following.{Follows}
use Rattle.sacn_network.specs.declared.ledger.Ledger.{Ledger}
use Rattle.sacn_watch.specs.Views.{shown_of}
use Rattle.sacn_watch.proofs.Following.{shown_ticked, ticked_at, whatever}
use Rattle.sacn_watch.proofs.Choosing.{ticked_shown, look_shown}
use Rattle.sacn_watch.proofs.terminal.TerminalWatcher.show.Goals as goal

pub returns-then-now-self : goal.returns-then-now-self
returns-then-now-self g c =
    let old = c.args.self.now.view.network.monitor in
    let new = c.tick.new.self.network.monitor in
    record {
      handed = λ calls was. record {
        book = shown_ticked calls c.args.now old new was.book was.moment c.tick.ensures.ticked;
        moment = ticked_at calls c.args.now old new was.book was.moment c.tick.ensures.clock;
        shown = ticked_shown calls c.args.now (shown_of c.args.self.now.view) (shown_of c.tick.new.self) was.shown c.tick.ensures.shown;
      };
    }

pub returns : goal.returns
returns g c =
    let old = c.args.self.now.view.network.monitor in
    let new = c.tick.new.self.network.monitor in
    record {
      handed = whatever c.draw.result
          (λ calls was. record {
            book = subst (Follows (Tick c.args.now ∷ calls)) (sym (ap (λ (n : Ledger). n.monitor) c.draw.ensures.network)) (shown_ticked calls c.args.now old new was.book was.moment c.tick.ensures.ticked);
            moment = ap (λ (n : Ledger). n.monitor.moment) c.draw.ensures.network ∙ ticked_at calls c.args.now old new was.book was.moment c.tick.ensures.clock;
            shown = look_shown (Tick c.args.now ∷ calls) c.args.now (shown_of c.tick.new.self) (shown_of c.draw.new.self.view)
                (ticked_shown calls c.args.now (shown_of c.args.self.now.view) (shown_of c.tick.new.self) was.shown c.tick.ensures.shown) c.draw.ensures.looked;
          });
    }
