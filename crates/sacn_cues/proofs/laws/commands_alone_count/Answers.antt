use Rattle.sacn_cues.proofs.Histories.{commands_count}
use Rattle.sacn_cues.proofs.laws.commands_alone_count.Goals as goal

pub returns : goal.returns
returns c = commands_count
