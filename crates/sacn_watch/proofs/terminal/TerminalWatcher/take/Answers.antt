use Rattle.std.proofs.Common.{◌&&◌, sym, subst, ap, ◌∙◌, ◌∷◌}
use Rattle.sacn_monitor.specs.Histories.{Take}
use Rattle.sacn_tell.specs.Following.{Follows}
use Rattle.sacn_network.specs.declared.ledger.Ledger.{Ledger}
use Rattle.sacn_watch.specs.Views.{shown_of}
use Rattle.sacn_watch.proofs.Following.{shown_taken, taken_at}
use Rattle.sacn_watch.proofs.Choosing.{taken_shown, looked_shown}
use Rattle.sacn_watch.proofs.terminal.TerminalWatcher.take.Goals as goal

pub returns : goal.returns
returns g c =
    let old = c.args.self.now.view.network.monitor in
    let new = c.take.new.self.network.monitor in
    record {
      handed = λ calls octets read was. record {
        book = subst (Follows (Take c.args.now c.args.sender octets ∷ calls)) (sym (ap (λ (n : Ledger). n.monitor) c.note_changes.ensures.network))
            (shown_taken calls c.args.now old new was.book was.moment c.args.sender octets (c.take.ensures.taken octets read));
        moment = ap (λ (n : Ledger). n.monitor.moment) c.note_changes.ensures.network
            ∙ taken_at calls c.args.now old new was.book was.moment c.args.sender octets (c.take.ensures.taken octets read);
        shown = looked_shown (Take c.args.now c.args.sender octets ∷ calls) c.args.now (shown_of c.take.new.self) (shown_of c.note_changes.new.self)
            (taken_shown calls c.args.now (shown_of c.args.self.now.view) (shown_of c.take.new.self) was.shown c.args.sender octets c.args.reading.now read c.take.ensures.shown)
            (c.is_concerned-is_concerned.result && c.take.new.self.steering.marks.is_on) c.note_changes.ensures.looked;
      };
    }
