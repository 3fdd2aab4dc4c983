use Rattle.sacn_sources.proofs.Padding.{padded}
use Rattle.sacn_sources.proofs.slots.levels.Levels.of.Goals as goal

-- the slots are those given, and after them what is left of the 512 zeros
pub invariant_of-result : goal.invariant_of-result
invariant_of-result c = padded c.args.given.now c.copy_from_slice.new.self c.copy_from_slice.ensures.after c.requires
