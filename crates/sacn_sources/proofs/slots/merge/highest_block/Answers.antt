use Rattle.std.proofs.lemmas.Simd.{get_or-replicate}
use Rattle.sacn_sources.proofs.slots.merge.highest_block.Goals as goal

pub loop-layer-init : goal.loop-layer-init
loop-layer-init c = record { low = λ i lt. get_or-replicate 64 i 0 0 lt; high = λ i lt. get_or-replicate 64 i 0 0 lt }
