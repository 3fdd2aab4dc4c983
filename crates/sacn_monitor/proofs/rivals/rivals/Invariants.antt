use Rattle.std.proofs.Common.{◌≡◌, ◌≤◌, drop}
use Rattle.sacn_monitor.proofs.Leading.{leading}
use Rattle.sacn_monitor.proofs.rivals.rivals.Given as goal

-- who leads by now, with the rest, are those that lead at last
abbrev pub invariant-loop-stream : goal.invariant-loop-stream
invariant-loop-stream l = record {
  counted : leading l.universe l.moment l.top l.count (drop l.stream-index l.streams) ≡ leading l.universe l.moment 0 0 l.streams;
  few : l.count ≤ l.stream-index;
}
