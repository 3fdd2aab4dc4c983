use Rattle.std.proofs.Common.{◌≡◌, ◌+◌, ◌≤◌, length, drop}
use Rattle.sacn_edge.specs.ConsoleSends.{come, commanded, refusals}
use Rattle.sacn_edge.proofs.console_loop.order.Given as goal

-- what is given, then what is left, is all
abbrev pub invariant-loop-moment : goal.invariant-loop-moment
invariant-loop-moment l = record {
  lines : l.given.lines ≡ l.moment-index;
  few : l.given.refused ≤ l.given.lines;
  all : l.given.lines + length (come l.greatest (drop l.moment-index l.script)) ≡ length (come l.greatest l.script);
  refused : l.given.refused + refusals l.now (come l.greatest (drop l.moment-index l.script)) l.core ≡ refusals l.now (come l.greatest l.script) l.initial.core;
  core : commanded l.now (come l.greatest (drop l.moment-index l.script)) l.core ≡ commanded l.now (come l.greatest l.script) l.initial.core;
}
