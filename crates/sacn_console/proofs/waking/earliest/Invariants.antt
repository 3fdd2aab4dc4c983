use Rattle.std.proofs.Common.{◌≡◌, ◌<◌, ◌≤◌, ℕ, length, slice_index_or}
use Rattle.sacn_console.specs.Wakes.{last_moment}
use Rattle.sacn_console.proofs.waking.earliest.Given as goal

abbrev pub invariant-loop-place : goal.invariant-loop-place
invariant-loop-place l =
    ((i : ℕ) → i < l.place → i < length l.moments → l.least ≤ slice_index_or l.moments i 0)
    × (l.least < last_moment → (i : ℕ) × (i < length l.moments) × (slice_index_or l.moments i 0 ≡ l.least))
