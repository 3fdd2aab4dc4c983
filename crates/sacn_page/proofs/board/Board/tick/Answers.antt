use Rattle.sacn_network.specs.Networks.{tick_told}
use Rattle.sacn_tell.proofs.Ticking.{is_ticked}
use Rattle.sacn_page.proofs.Alarming.{told_fold}
use Rattle.sacn_page.proofs.Replaying.{later_call}
use Rattle.sacn_page.proofs.board.Board.tick.Goals as goal

pub returns-clause-ticked : goal.returns-clause-ticked
returns-clause-ticked c = is_ticked c.args.now c.args.self.now.network c.tick.new.self c.tick.ensures.network

pub returns-clause-alarms : goal.returns-clause-alarms
returns-clause-alarms c = told_fold (tick_told c.args.now c.args.self.now.network) c.args.self.now.alarms c.tick.new.observer c.tick.ensures.told

pub returns-clause-later : goal.returns-clause-later
returns-clause-later c call by =
    let alarms = told_fold (tick_told c.args.now c.args.self.now.network) c.args.self.now.alarms c.tick.new.observer c.tick.ensures.told in
    later_call c.args.now c.args.self.now.network c.tick.new.self c.args.self.now.alarms c.tick.new.observer alarms c.tick.ensures.later call by
