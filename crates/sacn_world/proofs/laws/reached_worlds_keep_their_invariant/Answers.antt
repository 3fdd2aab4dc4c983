use Rattle.sacn_world.proofs.Reaching.{reached_ok}
use Rattle.sacn_world.proofs.laws.reached_worlds_keep_their_invariant.Goals as goal

pub returns : goal.returns
returns c = reached_ok
