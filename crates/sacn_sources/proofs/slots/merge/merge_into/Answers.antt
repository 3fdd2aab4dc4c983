use Rattle.std.proofs.Common.{◌≡◌, ℕ, ◌<◌, get_or, map, arith, ◌*◌, ◌+◌, ◌-◌, inl, inr, ◌∙◌}
use Rattle.std.proofs.lemmas.Bool.{cases_lt}
use Rattle.sacn_sources.specs.Layers.{shown_of}
use Rattle.sacn_sources.specs.Merge.{merged_level}
use Rattle.sacn_sources.proofs.Merging.{merge_is, merged_levels_are}
use Rattle.sacn_sources.proofs.slots.merge.merge_into.Goals as goal

pub returns-clause-merged : goal.returns-clause-merged
returns-clause-merged c =
    let each : (k : ℕ) → k < 512 → get_or c.loop-block.slots k 0 ≡ merged_level (map shown_of c.args.layers.now) k = λ k lt. rw c.top_priority-top.ensures at (c.loop-block.invariant.merged k (omega (arith, c.loop-block-test.false, lt))) in
    merge_is (map shown_of c.args.layers.now) c.loop-block.slots c.loop-block.invariant.whole each

pub returns-clause-highest : goal.returns-clause-highest
returns-clause-highest c =
    let each : (k : ℕ) → k < 512 → get_or c.loop-block.slots k 0 ≡ merged_level (map shown_of c.args.layers.now) k = λ k lt. rw c.top_priority-top.ensures at (c.loop-block.invariant.merged k (omega (arith, c.loop-block-test.false, lt))) in
    merged_levels_are (map shown_of c.args.layers.now) c.loop-block.slots c.loop-block.invariant.whole each

pub loop-block-preserved : goal.loop-block-preserved
loop-block-preserved c =
    let b : ℕ = 128 * c.loop-block.block in
    record {
      whole = c.put.array_long;
      merged = λ k lt. elim (cases_lt k b) [
        | inl below ↦ c.put.ensures.below k below ∙ c.loop-block.invariant.merged k below
        | inr past ↦ elim (cases_lt k (b + 64)) [
          | inl low ↦
              let same : b + (k - b) ≡ k = omega arith in
              let within : k - b < 64 = omega arith in
              rw same at (c.put.ensures.low (k - b) within ∙ c.highest_block.ensures.low (k - b) within)
          | inr high ↦
              let same : b + 64 + (k - (b + 64)) ≡ k = omega arith in
              let within : k - (b + 64) < 64 = omega arith in
              rw same at (c.put.ensures.high (k - (b + 64)) within ∙ c.highest_block.ensures.high (k - (b + 64)) within)
        ]
      ];
    }
