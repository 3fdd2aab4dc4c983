use Rattle.sacn_record.proofs.Taping.{files_are}
use Rattle.sacn_record.proofs.laws.files_are_recordings.Goals as goal

pub returns : goal.returns
returns c = files_are
