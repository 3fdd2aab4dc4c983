use Rattle.sacn_played_source.proofs.Told.{sends_what_is_held}
use Rattle.sacn_played_source.proofs.laws.sends_what_is_held.Goals as goal

pub returns : goal.returns
returns c = sends_what_is_held
