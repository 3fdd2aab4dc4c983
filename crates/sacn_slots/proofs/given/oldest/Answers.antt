use Rattle.std.proofs.Common.{arith}
use Rattle.sacn_slots.proofs.SlotWakes.{most}
use Rattle.sacn_slots.proofs.given.oldest.Goals as goal

pub loop-given-init : goal.loop-given-init
loop-given-init c = record { least = omega (arith, most c.as_slice-given-items.result.now); most = omega arith }
