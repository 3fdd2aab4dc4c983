use Rattle.sacn_incidents.proofs.Counting.{told_once}
use Rattle.sacn_incidents.proofs.laws.nothing_is_told_twice.Goals as goal

pub returns : goal.returns
returns c = told_once
