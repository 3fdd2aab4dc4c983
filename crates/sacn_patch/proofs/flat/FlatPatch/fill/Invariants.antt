use Rattle.std.proofs.Common.{◌≡◌, drop, replicate}
use Rattle.sacn_patch.proofs.Fills.{written, of_universe}
use Rattle.sacn_patch.proofs.flat.FlatPatch.fill.Given as goal

abbrev pub invariant-loop-place : goal.invariant-loop-place
invariant-loop-place g l = record {
  told : written (g.L.LevelOf.level l.levels) (of_universe l.universe (drop l.place l.row)) l.slots ≡ written (g.L.LevelOf.level l.levels) (of_universe l.universe l.row) (replicate 512 0);
}
