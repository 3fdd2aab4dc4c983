use Rattle.std.proofs.Common.{◌≡◌, ℕ, ◌*◌, ◌<◌, ◌≤◌, max, length, get_or}
use Rattle.sacn_slots.specs.Following.{level_followed}
use Rattle.sacn_slots.proofs.merge.follow.Given as goal

-- the vectors so far are joined, the others are as they were
abbrev pub invariant-loop-vector : goal.invariant-loop-vector
invariant-loop-vector l = record {
  whole_priorities : length l.priorities ≡ 512;
  whole_levels : length l.levels ≡ 512;
  priorities_done : (k : ℕ) → k < 64 * l.vector → get_or l.priorities k 0 ≡ max (get_or l.initial.priorities k 0) (get_or l.other_priorities k 0);
  levels_done : (k : ℕ) → k < 64 * l.vector → get_or l.levels k 0 ≡ level_followed (get_or l.initial.priorities k 0) (get_or l.initial.levels k 0) (get_or l.other_priorities k 0) (get_or l.other_levels k 0);
  priorities_left : (k : ℕ) → 64 * l.vector ≤ k → get_or l.priorities k 0 ≡ get_or l.initial.priorities k 0;
  levels_left : (k : ℕ) → 64 * l.vector ≤ k → get_or l.levels k 0 ≡ get_or l.initial.levels k 0;
}
