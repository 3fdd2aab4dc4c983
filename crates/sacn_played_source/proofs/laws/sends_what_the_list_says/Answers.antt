use Rattle.sacn_played_source.proofs.Told.{sends_what_the_list_says}
use Rattle.sacn_played_source.proofs.laws.sends_what_the_list_says.Goals as goal

pub returns : goal.returns
returns c = sends_what_the_list_says
