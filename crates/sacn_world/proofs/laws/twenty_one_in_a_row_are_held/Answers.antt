use Rattle.sacn_world.proofs.Reaching.{held_at_twenty_one}
use Rattle.sacn_world.proofs.laws.twenty_one_in_a_row_are_held.Goals as goal

pub returns : goal.returns
returns c = held_at_twenty_one
