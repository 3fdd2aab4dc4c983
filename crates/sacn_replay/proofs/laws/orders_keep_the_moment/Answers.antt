use Rattle.sacn_replay.proofs.Dues.{orders_keep}
use Rattle.sacn_replay.proofs.laws.orders_keep_the_moment.Goals as goal

pub returns : goal.returns
returns c = orders_keep
