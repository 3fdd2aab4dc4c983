use Rattle.sacn_slots.proofs.Vectors.{get_or-larger}
use Rattle.sacn_slots.proofs.lanes.greater.Goals as goal

pub returns : goal.returns
returns c = get_or-larger 64 c.args.lanes c.args.other c.fits-lanes.0 c.fits-other.0
