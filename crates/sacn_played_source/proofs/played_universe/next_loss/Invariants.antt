use Rattle.std.proofs.Common.{◌≡◌, ◌<◌, ◌≤◌, ◌^◌, ℕ, length, slice_index_or, IfSome, IfNone}
use Rattle.sacn_played_source.specs.declared.played_universe.PlayedUniverse.{PlayedUniverse}
use Rattle.sacn_played_source.specs.Universes.{lost_by, OneLostAt}
use Rattle.sacn_played_source.proofs.played_universe.next_loss.Given as goal

-- of the universes so far none loses a source before the moment, and one of them does at it
abbrev pub invariant-loop-place : goal.invariant-loop-place
invariant-loop-place l = record {
  never : IfNone l.first ((i t : ℕ) (d : PlayedUniverse) → i < l.place → i < length l.universes → t < 2 ^ 64 → lost_by t (slice_index_or l.universes i d) ≡ 0);
  asleep : IfSome l.first (λ moment. (i t : ℕ) (d : PlayedUniverse) → i < l.place → i < length l.universes → t < moment → lost_by t (slice_index_or l.universes i d) ≡ 0);
  awake : IfSome l.first (λ moment. OneLostAt l.universes moment);
}
