use Rattle.std.proofs.Common.{◌≡◌, length}
use Rattle.sacn_cues.specs.Levels.{begun_to}
use Rattle.sacn_cues.proofs.FadeStarts.{blanked}
use Rattle.sacn_cues.proofs.fade.begin_all.Given as goal

abbrev pub invariant-loop-at : goal.invariant-loop-at
invariant-loop-at l = record {
  long : length l.targets ≡ length l.fades;
  same : begun_to l.times.up l.times.down l.now (blanked l.at l.targets) l.fades ≡ begun_to l.times.up l.times.down l.now l.targets l.initial.fades;
}
