use Rattle.sacn_watch.specs.Views.{shown_of}
use Rattle.sacn_watch.proofs.Following.{shown_ticked, ticked_at}
use Rattle.sacn_watch.proofs.Choosing.{ticked_shown}
use Rattle.sacn_watch.proofs.terminal.TerminalWatcher.end.Goals as goal

pub returns-in_ok-flush : goal.returns-in_ok-flush
returns-in_ok-flush g c =
    let old = c.args.self.now.view.network.monitor in
    let new = c.tick.new.self.network.monitor in
    record {
      handed = λ calls was. record {
        book = shown_ticked calls c.args.now old new was.book was.moment c.tick.ensures.ticked;
        moment = ticked_at calls c.args.now old new was.book was.moment c.tick.ensures.clock;
        shown = ticked_shown calls c.args.now (shown_of c.args.self.now.view) (shown_of c.tick.new.self) was.shown c.tick.ensures.shown;
      };
    }

pub returns-else-len-gt0 : goal.returns-else-len-gt0
returns-else-len-gt0 g c =
    let old = c.args.self.now.view.network.monitor in
    let new = c.tick.new.self.network.monitor in
    record {
      handed = λ calls was. record {
        book = shown_ticked calls c.args.now old new was.book was.moment c.tick.ensures.ticked;
        moment = ticked_at calls c.args.now old new was.book was.moment c.tick.ensures.clock;
        shown = ticked_shown calls c.args.now (shown_of c.args.self.now.view) (shown_of c.tick.new.self) was.shown c.tick.ensures.shown;
      };
    }
