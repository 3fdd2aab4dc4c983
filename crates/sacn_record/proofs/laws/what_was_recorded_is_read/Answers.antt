use Rattle.sacn_record.proofs.Opening.{what_was_recorded_is_read}
use Rattle.sacn_record.proofs.laws.what_was_recorded_is_read.Goals as goal

pub returns : goal.returns
returns c = λ program all short fit. what_was_recorded_is_read program all short fit
