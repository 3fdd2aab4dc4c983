use Rattle.sacn_runs.proofs.NodeRunning.{nodes_run}
use Rattle.sacn_runs.proofs.laws.nodes_run_as_in_a_world.Goals as goal

pub returns : goal.returns
returns c = nodes_run
