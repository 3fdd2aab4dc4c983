use Rattle.sacn_world.proofs.Ran.{ran_after}
use Rattle.sacn_world.proofs.laws.runs_leave_the_world_after.Goals as goal

pub returns : goal.returns
returns c = ran_after
