use Rattle.sacn_world.proofs.Looks.{looks_same, levels_same}
use Rattle.sacn_world.proofs.laws.same_places_same_slots.Goals as goal

pub returns : goal.returns
returns c = record { slots = looks_same c.merge_is_of_a_set.ensures; levels = levels_same c.merge_is_of_a_set.ensures }
