use Rattle.std.proofs.Common.{◌+◌, ◌++◌, [], refl, sym, ◌∙◌, arith}
use Rattle.sacn_edge.proofs.ConsoleLemmas.{Hands-append, Hands-nil}
use Rattle.sacn_replay.specs.Runs.{played}
use Rattle.sacn_replay.proofs.Rounds.{comes, holds_more, on_more, sends_more}
use Rattle.sacn_replay.proofs.run.play_due.Goals as goal

pub loop-count-init : goal.loop-count-init
loop-count-init g c = λ p holds. ([], Hands-nil _, refl, holds, tt)

pub returns-then-has_to_wait : goal.returns-then-has_to_wait
returns-then-has_to_wait g c =
    let now = c.args.now in
    let n = c.loop-count._count in
    λ p holds.
    let run = c.loop-count.invariant p holds in
    let s = c.make_step-step.ensures (played now n p) run.3 in (
      n + 1,
      run.0 ++ s.0,
      comes now n p c.make_step-step.result s.3 (sym c.has_to_wait.ensures ∙ c.if-has_to_wait.true) (omega (arith, c.loop-count-test.true)) run.4,
      Hands-append _ _ _ run.0 s.0 run.1 s.1,
      sends_more now n p run.0 s.0 run.2 s.2,
      holds_more now n p _ _ s.4,
    )

pub loop-count-preserved : goal.loop-count-preserved
loop-count-preserved g c =
    let now = c.args.now in
    let n = c.loop-count._count in
    λ p holds.
    let run = c.loop-count.invariant p holds in
    let s = c.make_step-step.ensures (played now n p) run.3 in (
      run.0 ++ s.0,
      Hands-append _ _ _ run.0 s.0 run.1 s.1,
      sends_more now n p run.0 s.0 run.2 s.2,
      holds_more now n p _ _ s.4,
      on_more now n p c.make_step-step.result s.3 (sym c.has_to_wait.ensures ∙ c.if-has_to_wait.false) run.4,
    )

pub returns : goal.returns
returns g c = λ p holds.
    let run = c.loop-count.invariant p holds in
    (c.loop-count._count, run.0, (omega (arith, c.loop-count-test.false, c.loop-count.auto._count-end), run.4), run.1, run.2, run.3)
