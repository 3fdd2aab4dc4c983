use Rattle.sacn_world.proofs.Reaching.{own_cids_apart}
use Rattle.sacn_world.proofs.laws.own_cids_keep_consoles_apart.Goals as goal

pub returns : goal.returns
returns c = own_cids_apart
