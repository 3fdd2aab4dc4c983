-- A number that is so is the step, and the step is so.
use Rattle.std.proofs.Common.{sym, subst}
use Rattle.sacn_sources.specs.Sequence.{IsStep}
use Rattle.sacn_sources.proofs.Steps.{step_is, one_step}
use Rattle.sacn_sources.proofs.sequence.laws.one_step.Goals as goal

pub returns : goal.returns
returns c a b s fa fb = (λ is. one_step a b s fa fb is, λ same. subst (IsStep a b) (sym same) (step_is a b fa fb))
