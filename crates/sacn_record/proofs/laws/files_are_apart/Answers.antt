use Rattle.sacn_record.proofs.Taping.{are_apart}
use Rattle.sacn_record.proofs.laws.files_are_apart.Goals as goal

pub returns : goal.returns
returns c = are_apart
