use Rattle.std.proofs.Common.{◌≡◌, ℕ, ◌*◌, ◌<◌, get_or, map, length}
use Rattle.sacn_sources.specs.Merge.{highest_at}
use Rattle.sacn_sources.specs.Layers.{shown_of}
use Rattle.sacn_sources.proofs.slots.merge.merge_into.Given as goal

-- the blocks so far are merged
abbrev pub invariant-loop-block : goal.invariant-loop-block
invariant-loop-block l = record {
  whole : length l.slots ≡ 512;
  merged : (k : ℕ) → k < 128 * l.block → get_or l.slots k 0 ≡ highest_at l.top (map shown_of l.layers) k;
}
