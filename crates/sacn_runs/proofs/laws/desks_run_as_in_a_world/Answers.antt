use Rattle.sacn_runs.proofs.ConsoleRunning.{desks_run}
use Rattle.sacn_runs.proofs.laws.desks_run_as_in_a_world.Goals as goal

pub returns : goal.returns
returns c = desks_run
