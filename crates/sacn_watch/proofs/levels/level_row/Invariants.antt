use Rattle.std.proofs.Common.{◌≡◌}
use Rattle.sacn_watch.proofs.levels.level_row.Given as goal

-- the row stays as wide as it was
abbrev pub invariant-loop-slot : goal.invariant-loop-slot
invariant-loop-slot l = record { width : l.row.width ≡ l.width }
