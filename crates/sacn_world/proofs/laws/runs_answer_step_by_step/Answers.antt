use Rattle.sacn_world.proofs.Reaching.{run_answers, joined}
use Rattle.sacn_world.proofs.laws.runs_answer_step_by_step.Goals as goal

pub returns : goal.returns
returns c = record { answers = run_answers; joined = joined }
