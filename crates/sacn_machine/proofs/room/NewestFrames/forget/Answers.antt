use Rattle.std.proofs.Common.{rules}
use Rattle.arrayvec.proofs.ArrayVecLemmas.{filter-from_retain}
use Rattle.sacn_machine.proofs.room.NewestFrames.forget.Goals as goal

pub returns-clause-others : goal.returns-clause-others
returns-clause-others c = filter-from_retain _ _ _ (λ x b f y t. search rules) _ _ c.retain.ensures.filtered
