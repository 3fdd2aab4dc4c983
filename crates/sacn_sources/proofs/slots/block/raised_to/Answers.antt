use Rattle.sacn_sources.proofs.Blocks.{raised_lanes}
use Rattle.sacn_sources.proofs.slots.block.raised_to.Goals as goal

pub returns : goal.returns
returns c = raised_lanes 512 64 c.args.at c.args.lanes c.args.levels.now c.fits-lanes.0 c.told-levels c.requires
