use Rattle.sacn_runs.proofs.ConsoleRunning.{consoles_run}
use Rattle.sacn_runs.proofs.laws.consoles_run_as_in_a_world.Goals as goal

pub returns : goal.returns
returns c = consoles_run
