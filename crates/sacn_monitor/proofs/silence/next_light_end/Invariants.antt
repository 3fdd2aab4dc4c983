use Rattle.std.proofs.Common.{◌≡◌, ◌≤◌, ◌-◌, ◌^◌, min, drop}
use Rattle.sacn_monitor.specs.Books.{next_light_end}
use Rattle.sacn_monitor.proofs.silence.next_light_end.Given as goal

-- the least so far and the least of the rest are the least of all
abbrev pub invariant-loop-stream : goal.invariant-loop-stream
invariant-loop-stream l = record {
  least : min l.least (next_light_end l.moment (drop l.stream-index l.streams)) ≡ next_light_end l.moment l.streams;
  most : l.least ≤ 2 ^ 64 - 1;
}
