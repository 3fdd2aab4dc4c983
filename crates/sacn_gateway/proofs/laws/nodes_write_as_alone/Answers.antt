use Rattle.sacn_gateway.proofs.OneAmong.{as_alone, one_text, one_stops}
use Rattle.sacn_gateway.proofs.laws.nodes_write_as_alone.Goals as goal

pub returns-clause-own : goal.returns-clause-own
returns-clause-own c = as_alone

pub returns-clause-one : goal.returns-clause-one
returns-clause-one c = one_text

pub returns-clause-stops : goal.returns-clause-stops
returns-clause-stops c = one_stops
