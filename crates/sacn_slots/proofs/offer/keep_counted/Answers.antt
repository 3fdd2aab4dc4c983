use Rattle.std.proofs.Common.{ℕ, ◌*◌, ◌+◌, ◌≡◌, ◌<◌, get_or, ap, ap₂, ◌∙◌, arith}
use Rattle.sacn_slots.specs.Following.{counted, level_counted}
use Rattle.sacn_slots.proofs.Vectors.{more_done, others_left}
use Rattle.sacn_slots.proofs.offer.keep_counted.Goals as goal

pub loop-vector-preserved : goal.loop-vector-preserved
loop-vector-preserved c =
    let at : ℕ = 64 * c.loop-vector.vector in
    let told = c.loop-vector.invariant in
    let priorities = c.args.priorities.now in
    let levels = c.args.levels.now in
    let priority : (i : ℕ) → i < 64 → get_or c.load.result.priorities i 0 ≡ get_or priorities (at + i) 0 = λ i lt. c.load.ensures.priorities i lt ∙ told.priorities_left (at + i) (omega arith) in
    let level : (i : ℕ) → i < 64 → get_or c.load.result.levels i 0 ≡ get_or levels (at + i) 0 = λ i lt. c.load.ensures.levels i lt ∙ told.levels_left (at + i) (omega arith) in
    record {
      whole_priorities = c.store.array_long;
      whole_levels = c.store.array_long2;
      priorities_done = λ k lt. more_done c.loop-vector.priorities c.store.new.priorities at 64 (λ k. counted (get_or priorities k 0)) told.priorities_done c.store.ensures.priorities_below
          (λ i within. c.store.ensures.priorities i within ∙ c.counted.ensures.priorities i within ∙ ap counted (priority i within)) k (omega (arith, lt));
      levels_done = λ k lt. more_done c.loop-vector.levels c.store.new.levels at 64 (λ k. level_counted (get_or priorities k 0) (get_or levels k 0)) told.levels_done c.store.ensures.levels_below
          (λ i within. c.store.ensures.levels i within ∙ c.counted.ensures.levels i within ∙ ap₂ level_counted (priority i within) (level i within)) k (omega (arith, lt));
      priorities_left = λ k le. others_left c.loop-vector.priorities c.store.new.priorities at 64 priorities told.priorities_left c.store.ensures.priorities_above k (omega (arith, le));
      levels_left = λ k le. others_left c.loop-vector.levels c.store.new.levels at 64 levels told.levels_left c.store.ensures.levels_above k (omega (arith, le));
    }
