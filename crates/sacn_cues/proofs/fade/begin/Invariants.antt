use Rattle.std.proofs.Common.{◌≡◌, drop, length}
use Rattle.sacn_cues.specs.Levels.{begun_to}
use Rattle.sacn_cues.specs.Targets.{cleared}
use Rattle.sacn_cues.proofs.fade.begin.Given as goal

abbrev pub invariant-loop-channel : goal.invariant-loop-channel
invariant-loop-channel l = record {
  long : length l.targets ≡ length l.fades;
  told : cleared (drop l.channel-index l.levels) l.targets ≡ cleared l.levels l.initial.targets;
  same : begun_to l.times.up l.times.down l.now l.targets l.fades ≡ begun_to l.times.up l.times.down l.now l.initial.targets l.initial.fades;
}
