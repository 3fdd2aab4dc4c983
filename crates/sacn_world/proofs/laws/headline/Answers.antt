use Rattle.sacn_world.proofs.Headlines.{the_headline}
use Rattle.sacn_world.proofs.laws.headline.Goals as goal

pub returns : goal.returns
returns c = the_headline c.merge_is_of_a_set.ensures
