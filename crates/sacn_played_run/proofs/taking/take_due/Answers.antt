use Rattle.std.proofs.Common.{◌+◌, refl, sym, ◌∙◌, arith}
use Rattle.sacn_replay.specs.Runs.{played}
use Rattle.sacn_replay.proofs.Rounds.{comes, holds_more, on_more}
use Rattle.sacn_played_run.proofs.Calling.{taken_more}
use Rattle.sacn_played_run.proofs.taking.take_due.Goals as goal

pub loop-count-init : goal.loop-count-init
loop-count-init g c = λ p holds. (holds, tt, refl)

pub returns-then-has_to_wait : goal.returns-then-has_to_wait
returns-then-has_to_wait g c =
    let now = c.args.now in
    let n = c.loop-count._count in
    λ p holds.
    let run = c.loop-count.invariant p holds in
    let s = c.in_ok-step.ensures (played now n p) run.0 in (
      n + 1,
      comes now n p c.in_ok-step.step s.0 (sym c.has_to_wait.ensures ∙ c.if-has_to_wait.true) (omega (arith, c.loop-count-test.true)) run.1,
      holds_more now n p _ _ s.1,
      taken_more now n p c.args.source.now c.loop-count.source _ run.2 s.2,
    )

pub loop-count-preserved : goal.loop-count-preserved
loop-count-preserved g c =
    let now = c.args.now in
    let n = c.loop-count._count in
    λ p holds.
    let run = c.loop-count.invariant p holds in
    let s = c.in_ok-step.ensures (played now n p) run.0 in (
      holds_more now n p _ _ s.1,
      on_more now n p c.in_ok-step.step s.0 (sym c.has_to_wait.ensures ∙ c.if-has_to_wait.false) run.1,
      taken_more now n p c.args.source.now c.loop-count.source _ run.2 s.2,
    )

pub returns : goal.returns
returns g c = λ p holds.
    let run = c.loop-count.invariant p holds in
    (c.loop-count._count, (omega (arith, c.loop-count-test.false, c.loop-count.auto._count-end), run.1), run.0, run.2)
