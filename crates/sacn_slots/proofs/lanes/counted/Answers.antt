use Rattle.sacn_slots.proofs.Vectors.{get_or-counted}
use Rattle.sacn_slots.proofs.lanes.counted.Goals as goal

pub returns : goal.returns
returns c = get_or-counted 64 c.args.priorities c.fits-priorities.0
