use Rattle.std.proofs.Common.{◌≡◌, ℕ, ◌+◌, ◌<◌, get_or, map, take}
use Rattle.sacn_sources.specs.Merge.{highest_at}
use Rattle.sacn_sources.specs.Layers.{shown_of}
use Rattle.sacn_sources.proofs.slots.merge.highest_block.Given as goal

-- each lane is the highest of the layers so far
abbrev pub invariant-loop-layer : goal.invariant-loop-layer
invariant-loop-layer l = record {
  low : (i : ℕ) → i < 64 → get_or l.block.low i 0 ≡ highest_at l.priority (map shown_of (take l.layer-index l.layers)) (l.at + i);
  high : (i : ℕ) → i < 64 → get_or l.block.high i 0 ≡ highest_at l.priority (map shown_of (take l.layer-index l.layers)) (l.at + 64 + i);
}
