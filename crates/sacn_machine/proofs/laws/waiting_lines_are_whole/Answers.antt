use Rattle.sacn_machine.proofs.Gone.{all_keep}
use Rattle.sacn_machine.proofs.laws.waiting_lines_are_whole.Goals as goal

pub returns : goal.returns
returns c = all_keep
