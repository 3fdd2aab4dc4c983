use Rattle.std.proofs.Common.{None, Ok, Err, Option, ap, sym, subst, ◌∙◌}
use Rattle.std.proofs.lemmas.Result.{err_from_is_err_and}
use Rattle.sacn_capture.proofs.StepAnswers.{record_kept, step_found, step_nothing, step_failed}
use Rattle.sacn_capture.specs.declared.faults.CaptureFault.{CaptureFault}
use Rattle.sacn_capture.specs.declared.stream.Step.TheVariants.{Found, Nothing}
use Rattle.sacn_capture.specs.Recordings.{State}
use Rattle.sacn_capture.specs.Streams.{Steps, file_place, state_of, to_come_by}
use Rattle.sacn_capture.proofs.stream.Capture.step.Goals as goal

pub returns-in-Some-clause-record : goal.returns-in-Some-clause-record
returns-in-Some-clause-record g c =
    λ header is. record_kept header c.in-Some.frame c.next.new.self.moment (g.R.Read.remaining c.args.self.now.pieces.input.reader) (g.R.Read.remaining c.is_ended.new.self.input.reader)
    (g.R.Read.remaining c.next.new.self.input.reader) c.next.new.self.buffer.octets.items c.in_ok-is_ended.ensures.kept
    (rw c.in-Some.is at (c.in_ok-frame.ensures.record header (ap (λ (s : State). s.format) c.in_ok-is_ended.ensures.state ∙ is)))

pub returns-in-Some-clause-told : goal.returns-in-Some-clause-told
returns-in-Some-clause-told g c =
    let remaining = g.R.Read.remaining in
    let old = c.args.self.now.pieces in
    let mid = c.is_ended.new.self in
    let new = c.next.new.self in
    subst (λ (s : Option CaptureFault). Steps (Ok (Found c.in-Some.frame)) old.input.at new (to_come_by s (state_of old) (file_place remaining old)) (to_come_by s (state_of new) (file_place remaining new)))
    (sym c.requires)
    (step_found new (state_of old) (state_of mid) old.input.at (remaining old.input.reader) (file_place remaining mid) (file_place remaining new) old.input.at c.in-Some.frame
    (rw c.if-branch.false at c.in_ok-is_ended.ensures.told) c.in_ok-is_ended.ensures.state (rw c.in-Some.is at c.in_ok-frame.ensures.exact))

pub returns-in-None-clause-told : goal.returns-in-None-clause-told
returns-in-None-clause-told g c =
    let remaining = g.R.Read.remaining in
    let old = c.args.self.now.pieces in
    let mid = c.is_ended.new.self in
    let new = c.next.new.self in
    subst (λ (s : Option CaptureFault). Steps (Ok Nothing) old.input.at new (to_come_by s (state_of old) (file_place remaining old)) (to_come_by s (state_of new) (file_place remaining new)))
    (sym c.requires)
    (step_nothing new (state_of old) (state_of mid) old.input.at (remaining old.input.reader) (file_place remaining mid) (file_place remaining new) old.input.at
    (rw c.if-branch.false at c.in_ok-is_ended.ensures.told) c.in_ok-is_ended.ensures.state (rw c.in-None.is at c.in_ok-frame.ensures.exact))

pub returns-in_err-frame-clause-told : goal.returns-in_err-frame-clause-told
returns-in_err-frame-clause-told g c =
    let remaining = g.R.Read.remaining in
    let old = c.args.self.now.pieces in
    let mid = c.is_ended.new.self in
    let new = c.next.new.self in
    let kind = c.in_err-frame.field-0.0 in
    let p = err_from_is_err_and c.from_residual-in_err-frame.result c.from_residual-in_err-frame.ensures.1 in
    rw (p.1, p.2) (subst (λ (s : Option CaptureFault). Steps (Err kind) old.input.at new (to_come_by s (state_of old) (file_place remaining old)) (to_come_by s (state_of new) (file_place remaining new)))
    (sym c.requires)
    (step_failed new (state_of old) (state_of mid) old.input.at (remaining old.input.reader) (file_place remaining mid) (file_place remaining new) kind
    (to_come_by None (state_of new) (file_place remaining new)) (rw c.if-branch.false at c.in_ok-is_ended.ensures.told) c.in_ok-is_ended.ensures.state c.in_err-frame.ensures.exact))
