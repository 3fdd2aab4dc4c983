use Rattle.sacn_slots.proofs.Vectors.{stored_below, stored_at, stored_above}
use Rattle.sacn_slots.proofs.lanes.store_lanes.Goals as goal

pub returns-clause-at : goal.returns-clause-at
returns-clause-at c = stored_at 512 64 c.args.at c.args.slots.now c.args.lanes c.told-slots c.fits-lanes.0 c.requires

pub returns-clause-below : goal.returns-clause-below
returns-clause-below c = stored_below 512 64 c.args.at c.args.slots.now c.args.lanes c.told-slots c.fits-lanes.0 c.requires

pub returns-clause-above : goal.returns-clause-above
returns-clause-above c = stored_above 512 64 c.args.at c.args.slots.now c.args.lanes c.told-slots c.fits-lanes.0 c.requires
