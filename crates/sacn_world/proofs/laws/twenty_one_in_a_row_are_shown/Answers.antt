use Rattle.sacn_world.proofs.Counts.{shown_at_twenty_one}
use Rattle.sacn_world.proofs.laws.twenty_one_in_a_row_are_shown.Goals as goal

pub returns : goal.returns
returns c = λ shows setups events i k m n g x d o. shown_at_twenty_one shows setups events i k m n g x d o
