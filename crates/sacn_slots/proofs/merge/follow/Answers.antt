use Rattle.std.proofs.Common.{ℕ, ◌*◌, ◌+◌, ◌≡◌, ◌<◌, max, get_or, ap₂, ◌∙◌, arith}
use Rattle.sacn_slots.specs.Following.{level_followed}
use Rattle.sacn_slots.proofs.Vectors.{more_done, others_left}
use Rattle.sacn_slots.proofs.Joining.{followed_along}
use Rattle.sacn_slots.proofs.merge.follow.Goals as goal

pub loop-vector-preserved : goal.loop-vector-preserved
loop-vector-preserved c =
    let at : ℕ = 64 * c.loop-vector.vector in
    let told = c.loop-vector.invariant in
    let priorities = c.args.priorities.now in
    let levels = c.args.levels.now in
    let other_priorities = c.args.other_priorities.now in
    let other_levels = c.args.other_levels.now in
    let priority : (i : ℕ) → i < 64 → get_or c.load.result.priorities i 0 ≡ get_or priorities (at + i) 0 = λ i lt. c.load.ensures.priorities i lt ∙ told.priorities_left (at + i) (omega arith) in
    let level : (i : ℕ) → i < 64 → get_or c.load.result.levels i 0 ≡ get_or levels (at + i) 0 = λ i lt. c.load.ensures.levels i lt ∙ told.levels_left (at + i) (omega arith) in
    record {
      whole_priorities = c.store.array_long;
      whole_levels = c.store.array_long2;
      priorities_done = λ k lt. more_done c.loop-vector.priorities c.store.new.priorities at 64 (λ k. max (get_or priorities k 0) (get_or other_priorities k 0)) told.priorities_done c.store.ensures.priorities_below
          (λ i within. c.store.ensures.priorities i within ∙ c.joined.ensures.priorities i within ∙ ap₂ max (priority i within) (c.load-other.ensures.priorities i within)) k (omega (arith, lt));
      levels_done = λ k lt. more_done c.loop-vector.levels c.store.new.levels at 64 (λ k. level_followed (get_or priorities k 0) (get_or levels k 0) (get_or other_priorities k 0) (get_or other_levels k 0)) told.levels_done c.store.ensures.levels_below
          (λ i within. c.store.ensures.levels i within ∙ c.joined.ensures.levels i within ∙ followed_along (priority i within) (level i within) (c.load-other.ensures.priorities i within) (c.load-other.ensures.levels i within)) k (omega (arith, lt));
      priorities_left = λ k le. others_left c.loop-vector.priorities c.store.new.priorities at 64 priorities told.priorities_left c.store.ensures.priorities_above k (omega (arith, le));
      levels_left = λ k le. others_left c.loop-vector.levels c.store.new.levels at 64 levels told.levels_left c.store.ensures.levels_above k (omega (arith, le));
    }
