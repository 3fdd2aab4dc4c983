use Rattle.sacn_console.proofs.Rhythm.{none_waits_too_long}
use Rattle.sacn_console.proofs.laws.none_waits_too_long.Goals as goal

pub returns : goal.returns
returns c = none_waits_too_long
