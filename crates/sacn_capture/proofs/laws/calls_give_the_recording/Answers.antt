use Rattle.sacn_capture.proofs.Calls.{of_calls}
use Rattle.sacn_capture.proofs.laws.calls_give_the_recording.Goals as goal

pub returns : goal.returns
returns c = λ results all after h. of_calls results all after h
