use Rattle.std.proofs.Common.{sym, subst, ◌∙◌}
use Rattle.sacn_capture.proofs.StepAnswers.{stays_on}
use Rattle.sacn_capture.specs.declared.stream.Capture.{Capture}
use Rattle.sacn_capture.specs.declared.stream.Step.TheVariants.{Ended, Found}
use Rattle.sacn_capture.specs.Streams.{IsPcap, StepReads, left_in, to_come}
use Rattle.sacn_capture.proofs.stream.Capture.advance.Goals as goal

pub returns-in-Ok-Ended-clause-end : goal.returns-in-Ok-Ended-clause-end
returns-in-Ok-Ended-clause-end g c =
    λ header is.
    let same = c.loop.invariant.2 header is in
    subst (λ (s : Capture _). StepReads header Ended (left_in g.R.Read.remaining s) (left_in g.R.Read.remaining c.step.new.self) c.step.new.self.pieces) same
    (rw c.in-Ok-Ended.field-0-is at (c.in-Ok-Ended.ensures.record header (subst (λ (s : Capture _). IsPcap header s) (sym same) is)))

pub returns-in-Ok-Found-clause-given : goal.returns-in-Ok-Found-clause-given
returns-in-Ok-Found-clause-given g c =
    λ header is.
    let same = c.loop.invariant.2 header is in
    subst (λ (s : Capture _). StepReads header (Found c.in-Ok-Found.frame) (left_in g.R.Read.remaining s) (left_in g.R.Read.remaining c.step.new.self) c.step.new.self.pieces) same
    (rw c.in-Ok-Found.field-0-is at (c.in-Ok-Found.ensures.record header (subst (λ (s : Capture _). IsPcap header s) (sym same) is)))

pub loop-preserved : goal.loop-preserved
loop-preserved g c = (
  c.in-Ok-Nothing.ensures.going,
  stays_on c.step.new.self.pieces (to_come g.R.Read.remaining c.args.self.now) (to_come g.R.Read.remaining c.loop.self) (to_come g.R.Read.remaining c.step.new.self) c.step.new.self.mark
      c.loop.invariant.1 (rw c.in-Ok-Nothing.field-0-is at c.in-Ok-Nothing.ensures.told),
  λ header is.
      absurd (rw c.in-Ok-Nothing.field-0-is at (c.in-Ok-Nothing.ensures.record header (subst (λ (s : Capture _). IsPcap header s) (sym (c.loop.invariant.2 header is)) is))),
  c.in-Ok-Nothing.ensures.counts ∙ c.loop.invariant.3,
)
