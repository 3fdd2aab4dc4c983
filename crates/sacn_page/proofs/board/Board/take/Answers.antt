use Rattle.std.proofs.Common.{◌∙◌}
use Rattle.sacn_network.specs.Networks.{take_told}
use Rattle.sacn_watch.proofs.Following.{whatever}
use Rattle.sacn_tell.proofs.Ticking.{is_taken}
use Rattle.sacn_page.proofs.Alarming.{told_fold}
use Rattle.sacn_page.proofs.board.Board.take.Goals as goal

pub returns : goal.returns
returns c = record {
  taken = λ octets read. whatever c.light.result
      (is_taken c.args.now c.args.sender octets c.args.reading.now c.args.self.now.network c.light.new.self.network read (c.light.ensures.network ∙ c.take.ensures.network));
  network = c.light.ensures.network ∙ c.take.ensures.network;
  alarms = c.light.ensures.alarms
      ∙ told_fold (take_told c.args.now c.args.sender c.args.reading.now c.args.self.now.network) c.args.self.now.alarms c.take.new.observer c.take.ensures.told;
}
