use Rattle.sacn_sources.proofs.FrameOctets.{framed}
use Rattle.sacn_sources.proofs.slots.frame.frame_bytes.Goals as goal

pub returns : goal.returns
returns c = framed 512 0 c.args.frame.now c.args.slots.now c.copy_from_slice.new.self c.told-frame c.copy_from_slice.ensures.after
