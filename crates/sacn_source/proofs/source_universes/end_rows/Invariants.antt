use Rattle.std.proofs.Common.{◌≡◌, ◌++◌, map, take, drop}
use Rattle.sacn_source.specs.Rows.{row_ended}
use Rattle.sacn_source.proofs.source_universes.end_rows.Given as goal

-- the rows so far are ended, and the rest are as they were
abbrev pub invariant-loop-place : goal.invariant-loop-place
invariant-loop-place l = l.rows ≡ map row_ended (take l.place l.initial.rows) ++ drop l.place l.initial.rows
