use Rattle.sacn_record.proofs.Taping.{kept_once}
use Rattle.sacn_record.proofs.laws.each_is_kept_once.Goals as goal

pub returns : goal.returns
returns c = kept_once
