use Rattle.sacn_slots.proofs.Vectors.{get_or-followed}
use Rattle.sacn_slots.proofs.lanes.followed.Goals as goal

pub returns : goal.returns
returns c = get_or-followed 64 c.args.priorities c.args.levels c.args.other_priorities c.args.other_levels c.fits-priorities.0 c.fits-levels.0 c.fits-other_priorities.0 c.fits-other_levels.0
