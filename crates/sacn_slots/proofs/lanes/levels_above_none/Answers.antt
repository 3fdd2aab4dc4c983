use Rattle.sacn_slots.proofs.Vectors.{get_or-above_none}
use Rattle.sacn_slots.proofs.lanes.levels_above_none.Goals as goal

pub returns : goal.returns
returns c = get_or-above_none 64 c.args.priorities c.args.levels c.fits-priorities.0 c.fits-levels.0
