use Rattle.std.proofs.Common.{◌-◌, arith}
use Rattle.sacn_patch.proofs.Runs.{longer}
use Rattle.sacn_patch.proofs.flat.joined.Goals as goal

pub returns-then-next-step : goal.returns-then-next-step
returns-then-next-step c = λ row place here next. (
  omega (arith, next.0, c.saturating_add-run.ensures),
  longer row (c.args.next.octet - c.args.mark.octet) c.args.next.run c.saturating_add-run.result place c.args.mark.slot c.args.mark.octet c.args.mark.step c.args.mark.run c.args.next.slot c.args.next.octet here.0 here.1 (rw c.if-next-step.true at next.1) c.if-next-mark.false (omega arith) (omega (arith, c.saturating_add-run.ensures)),
)
