use Rattle.std.proofs.Common.{◌∙◌}
use Rattle.sacn_watch.specs.Views.{shown_of}
use Rattle.sacn_watch.proofs.Choosing.{keeps}
use Rattle.sacn_watch.proofs.terminal.Terminal.press.Goals as goal

pub returns : goal.returns
returns g c = keeps c.args.now c.args.self.now _ (shown_of c.refresh.new.self) (c.press.ensures.network ∙ c.refresh.ensures.network) c.refresh.ensures.shown c.press.ensures.steered
