use Rattle.sacn_world.proofs.Replies.{numbers_as_places}
use Rattle.sacn_world.proofs.laws.numbers_answer_as_places_do.Goals as goal

pub returns : goal.returns
returns c = numbers_as_places
