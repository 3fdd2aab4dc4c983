use Rattle.std.proofs.Common.{drop}
use Rattle.sacn_patch.proofs.Fills.{of_universe}
use Rattle.sacn_patch.proofs.ShownChannels.{EachOf}
use Rattle.sacn_patch.proofs.flat.FlatPatch.rests.Given as goal

abbrev pub invariant-loop-place : goal.invariant-loop-place
invariant-loop-place g l = EachOf (g.R.RestOf.stays l.levels) (of_universe l.universe (drop l.place l.row)) → EachOf (g.R.RestOf.stays l.levels) (of_universe l.universe l.row)
