use Rattle.sacn_node.proofs.StableFrames.{slots_are_kept, frames_are_kept}
use Rattle.sacn_node.proofs.laws.changes_are_told.Goals as goal

pub returns-clause-slots : goal.returns-clause-slots
returns-clause-slots c = slots_are_kept

pub returns-clause-frames : goal.returns-clause-frames
returns-clause-frames c = frames_are_kept
