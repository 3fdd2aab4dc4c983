use Rattle.sacn_sources.proofs.Mirrors.{expires_alone}
use Rattle.sacn_sources.proofs.laws.expiry_drops_what_is_lost.Goals as goal

pub returns : goal.returns
returns c = expires_alone
