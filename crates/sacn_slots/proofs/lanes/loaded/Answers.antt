use Rattle.std.proofs.Common.{◌-◌, arith}
use Rattle.sacn_slots.proofs.Vectors.{get_or-loaded}
use Rattle.sacn_slots.proofs.lanes.loaded.Goals as goal

pub returns : goal.returns
returns c = λ i lt. get_or-loaded c.args.at (512 - c.args.at) 64 c.args.slots.now i lt (omega (arith, c.requires))
