use Rattle.std.proofs.Common.{◌≡◌, length}
use Rattle.sacn_patch.specs.Flat.{AreStarts}
use Rattle.sacn_patch.proofs.flat.starts_of.Given as goal

abbrev pub invariant-loop-universe : goal.invariant-loop-universe
invariant-loop-universe l = record {
  long : length l.starts.items ≡ l.universe;
  each : AreStarts l.row l.starts.items;
}
