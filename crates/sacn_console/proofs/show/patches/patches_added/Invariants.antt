use Rattle.std.proofs.Common.{◌≡◌, drop}
use Rattle.std.specs.FinMap.{empty}
use Rattle.sacn_console.specs.ShowReading.{patches_added}
use Rattle.sacn_console.proofs.show.patches.patches_added.Given as goal

abbrev pub invariant-loop-row : goal.invariant-loop-row
invariant-loop-row l = patches_added l.universes empty l.rows ≡ patches_added l.universes l.patch (drop l.row-index l.rows)
