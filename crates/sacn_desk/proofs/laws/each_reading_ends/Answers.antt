use Rattle.sacn_desk.proofs.FairEnds.{each_ends}
use Rattle.sacn_desk.proofs.laws.each_reading_ends.Goals as goal

pub returns : goal.returns
returns c = each_ends
