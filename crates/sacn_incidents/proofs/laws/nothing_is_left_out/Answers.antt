use Rattle.sacn_incidents.proofs.Covering.{left_out}
use Rattle.sacn_incidents.proofs.laws.nothing_is_left_out.Goals as goal

pub returns : goal.returns
returns c = left_out
