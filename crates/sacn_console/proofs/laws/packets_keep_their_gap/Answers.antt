use Rattle.sacn_console.proofs.Rhythm.{packets_keep_their_gap}
use Rattle.sacn_console.proofs.laws.packets_keep_their_gap.Goals as goal

pub returns : goal.returns
returns c = packets_keep_their_gap
