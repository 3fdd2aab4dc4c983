use Rattle.sacn_runs.proofs.GatewayRunning.{gateways_run}
use Rattle.sacn_runs.proofs.laws.gateways_run_as_in_a_world.Goals as goal

pub returns : goal.returns
returns c = gateways_run c.interfaces_show_their_ports.ensures.frames
