use Rattle.sacn_world.proofs.Frames.{frames_merge}
use Rattle.sacn_world.proofs.laws.frames_are_merges_of_what_was_sent.Goals as goal

pub returns : goal.returns
returns c = frames_merge
