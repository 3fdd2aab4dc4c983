use Rattle.sacn_runs.proofs.Staging.{stage_holds}
use Rattle.sacn_runs.proofs.laws.stage.Goals as goal

pub returns : goal.returns
returns c = stage_holds c.headline.ensures c.interfaces_show_their_ports.ensures.frames
