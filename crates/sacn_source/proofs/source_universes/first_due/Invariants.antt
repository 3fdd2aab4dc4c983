use Rattle.std.proofs.Common.{◌≡◌, find, drop}
use Rattle.sacn_source.specs.Rows.{row_due}
use Rattle.sacn_source.proofs.source_universes.first_due.Given as goal

abbrev pub invariant-loop-place : goal.invariant-loop-place
invariant-loop-place l = find (row_due l.moment) (drop l.place l.rows) ≡ find (row_due l.moment) (drop l.from l.rows)
