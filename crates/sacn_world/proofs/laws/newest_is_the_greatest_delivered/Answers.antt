use Rattle.sacn_world.proofs.NewestPlaces.{greatest_delivered}
use Rattle.sacn_world.proofs.laws.newest_is_the_greatest_delivered.Goals as goal

pub returns : goal.returns
returns c = greatest_delivered
