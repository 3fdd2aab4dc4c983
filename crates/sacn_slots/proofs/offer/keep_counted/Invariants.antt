use Rattle.std.proofs.Common.{◌≡◌, ℕ, ◌*◌, ◌<◌, ◌≤◌, length, get_or}
use Rattle.sacn_slots.specs.Following.{counted, level_counted}
use Rattle.sacn_slots.proofs.offer.keep_counted.Given as goal

-- the vectors so far count, the others are as they were
abbrev pub invariant-loop-vector : goal.invariant-loop-vector
invariant-loop-vector l = record {
  whole_priorities : length l.priorities ≡ 512;
  whole_levels : length l.levels ≡ 512;
  priorities_done : (k : ℕ) → k < 64 * l.vector → get_or l.priorities k 0 ≡ counted (get_or l.initial.priorities k 0);
  levels_done : (k : ℕ) → k < 64 * l.vector → get_or l.levels k 0 ≡ level_counted (get_or l.initial.priorities k 0) (get_or l.initial.levels k 0);
  priorities_left : (k : ℕ) → 64 * l.vector ≤ k → get_or l.priorities k 0 ≡ get_or l.initial.priorities k 0;
  levels_left : (k : ℕ) → 64 * l.vector ≤ k → get_or l.levels k 0 ≡ get_or l.initial.levels k 0;
}
