use Rattle.sacn_world.proofs.Frames.{equal_slots}
use Rattle.sacn_world.proofs.laws.equal_holdings_give_equal_slots.Goals as goal

pub returns : goal.returns
returns c = equal_slots c.merge_is_of_a_set.ensures
