use Rattle.sacn_console.proofs.Frames.{frame_rests}
use Rattle.sacn_console.proofs.line.rests.Goals as goal

pub returns : goal.returns
returns c told = frame_rests (record { patch = c.args.patch.now; player = c.args.player.now.player.now }) c.args.universe (c.rests.ensures told)
