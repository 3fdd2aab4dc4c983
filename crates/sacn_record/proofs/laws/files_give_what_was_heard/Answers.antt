use Rattle.std.proofs.Common.{List, ℕ, sym, subst, ◌∙◌}
use Rattle.sacn_record.specs.Recordings.{Taken}
use Rattle.sacn_record.specs.Hearing.{asked_by}
use Rattle.sacn_record.specs.Sessions.{tapes_by}
use Rattle.sacn_record.specs.Laws.{AllFit, AreReadAs}
use Rattle.sacn_record.proofs.Taping.{tapes_read}
use Rattle.sacn_record.proofs.laws.files_give_what_was_heard.Goals as goal

pub returns : goal.returns
returns c = λ plan rounds short fit.
    subst (λ (files : List (List ℕ)). AreReadAs files (tapes_by plan rounds)) (sym (c.files_are_recordings.ensures plan rounds))
    (tapes_read c.calls_give_what_was_recorded.ensures plan short (tapes_by plan rounds) (subst AllFit (sym (c.each_is_kept_once.ensures plan rounds)) fit))
