use Rattle.sacn_tell.proofs.Ticking.{is_ticked}
use Rattle.sacn_watch.proofs.view.View.tick.Goals as goal

pub returns-clause-ticked : goal.returns-clause-ticked
returns-clause-ticked c = is_ticked c.args.now c.args.self.now.network c.tick.new.self c.tick.ensures.network
