use Rattle.std.proofs.Common.{◌≡◌, ℕ, ◌<◌, get_or, map, arith}
use Rattle.sacn_sources.specs.Layers.{shown_of}
use Rattle.sacn_sources.specs.Merge.{merged_level}
use Rattle.sacn_sources.proofs.Merging.{merge_is, merged_levels_are}
use Rattle.sacn_sources.proofs.slots.plain.merge_into.Goals as goal

pub returns-clause-merged : goal.returns-clause-merged
returns-clause-merged c =
    let each : (k : ℕ) → k < 512 → get_or c.loop-slot.slots k 0 ≡ merged_level (map shown_of c.args.layers.now) k = λ k lt. rw c.top_priority-top.ensures at (c.loop-slot.invariant.merged k (omega (arith, c.loop-slot-test.false, c.told-slots, lt))) in
    merge_is (map shown_of c.args.layers.now) c.loop-slot.slots c.loop-slot.invariant.whole each

pub returns-clause-highest : goal.returns-clause-highest
returns-clause-highest c =
    let each : (k : ℕ) → k < 512 → get_or c.loop-slot.slots k 0 ≡ merged_level (map shown_of c.args.layers.now) k = λ k lt. rw c.top_priority-top.ensures at (c.loop-slot.invariant.merged k (omega (arith, c.loop-slot-test.false, c.told-slots, lt))) in
    merged_levels_are (map shown_of c.args.layers.now) c.loop-slot.slots c.loop-slot.invariant.whole each
