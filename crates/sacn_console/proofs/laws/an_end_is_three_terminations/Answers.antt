use Rattle.sacn_console.proofs.Rhythm.{an_end_is_three_terminations}
use Rattle.sacn_console.proofs.laws.an_end_is_three_terminations.Goals as goal

pub returns : goal.returns
returns c = an_end_is_three_terminations
