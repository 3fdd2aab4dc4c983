use Rattle.std.proofs.Common.{◌≡◌, ◌≤◌, max}
use Rattle.sacn_tell.specs.Silences.{TellsDark}
use Rattle.sacn_tell.proofs.follower.Follower.tell_each_dark.Given as goal

-- what the node lost so far
abbrev pub invariant-loop : goal.invariant-loop
invariant-loop g l = record {
  by : l.self.network.monitor.moment ≤ max l.fn.self.network.monitor.moment l.until;
  listings : l.self.listings ≡ l.fn.self.listings;
  options : l.self.writer.options ≡ l.fn.self.writer.options;
  told : TellsDark {O = g.row.O.Denot} g.O.Write.contents l.until l.fn.self l.self;
}
