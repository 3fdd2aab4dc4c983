use Rattle.std.proofs.Common.{◌≡◌, ◌≤◌, ◌-◌, ◌^◌, min, drop}
use Rattle.sacn_monitor.specs.Books.{next_loss}
use Rattle.sacn_monitor.proofs.silence.next_loss.Given as goal

-- the least so far and the least of the rest are the least of all
abbrev pub invariant-loop-stream : goal.invariant-loop-stream
invariant-loop-stream l = record {
  least : min l.least (next_loss (drop l.stream-index l.streams)) ≡ next_loss l.streams;
  most : l.least ≤ 2 ^ 64 - 1;
}
