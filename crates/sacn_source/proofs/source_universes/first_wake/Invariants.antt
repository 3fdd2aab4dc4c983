use Rattle.std.proofs.Common.{◌<◌, ◌≤◌, ℕ, length, slice_index_or}
use Rattle.sacn_source.specs.declared.source_universe.SourceUniverse.{SourceUniverse}
use Rattle.sacn_source.specs.Wakes.{row_wake, IsReached}
use Rattle.sacn_source.proofs.source_universes.first_wake.Given as goal

abbrev pub invariant-loop-place : goal.invariant-loop-place
invariant-loop-place l =
    ((i : ℕ) (d : SourceUniverse) → i < l.place → i < length l.rows → l.first ≤ row_wake (slice_index_or l.rows i d)) × IsReached l.rows l.first
