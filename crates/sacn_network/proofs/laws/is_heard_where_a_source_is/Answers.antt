use Rattle.sacn_network.proofs.Hearing.{heard_where_a_source_is}
use Rattle.sacn_network.proofs.laws.is_heard_where_a_source_is.Goals as goal

pub returns : goal.returns
returns c = heard_where_a_source_is
