use Rattle.std.proofs.Common.{subst}
use Rattle.sacn_capture.specs.Calls.{AreOf}
use Rattle.sacn_capture.specs.Recordings.{Told, recording}
use Rattle.sacn_record.specs.Recordings.{recording_of}
use Rattle.sacn_record.proofs.Opening.{what_was_recorded_is_read}
use Rattle.sacn_record.proofs.laws.calls_give_what_was_recorded.Goals as goal

pub returns : goal.returns
returns c = λ program all short fit results after calls.
    subst (λ (told : Told). AreOf results told) (what_was_recorded_is_read program all short fit) (c.calls_give_the_recording.ensures results (recording (recording_of program all)) after calls)
