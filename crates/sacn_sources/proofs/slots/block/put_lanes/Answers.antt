use Rattle.sacn_sources.proofs.Blocks.{stored_below, stored_at}
use Rattle.sacn_sources.proofs.slots.block.put_lanes.Goals as goal

pub returns-clause-below : goal.returns-clause-below
returns-clause-below c = stored_below 512 64 c.args.at c.args.slots.now c.args.lanes c.told-slots c.fits-lanes.0 c.requires

pub returns-clause-put : goal.returns-clause-put
returns-clause-put c = stored_at 512 64 c.args.at c.args.slots.now c.args.lanes c.told-slots c.fits-lanes.0 c.requires
