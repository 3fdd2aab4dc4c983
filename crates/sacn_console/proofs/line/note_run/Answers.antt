use Rattle.sacn_console.proofs.Frames.{run_repeated}
use Rattle.std.proofs.Common.{sym, ◌∙◌}
use Rattle.sacn_console.proofs.line.note_run.Goals as goal

pub returns-then-same : goal.returns-then-same
returns-then-same c = run_repeated c.args.slots.now c.args.run.now c.saturating_sub-run.result (sym c.same.ensures ∙ c.if-same.true) c.saturating_sub-run.ensures
