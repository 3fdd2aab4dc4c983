use Rattle.std.proofs.Common.{arith, ◌+◌, ◌++◌, [], refl, ap, ◌∙◌, not}
use Rattle.sacn_edge.specs.ConsoleSends.{handed_of}
use Rattle.sacn_edge.proofs.ConsoleLemmas.{Hands-append, Hands-nil}
use Rattle.sacn_played_run.specs.Calls.{polled}
use Rattle.sacn_played_run.proofs.Giving.{poll_after, poll_given, poll_quiet}
use Rattle.sacn_played_run.proofs.sending.send_due.Goals as goal

pub loop-count-init : goal.loop-count-init
loop-count-init g c = ([], Hands-nil _, refl, refl)

pub returns-then-is_none : goal.returns-then-is_none
returns-then-is_none g c =
    let run = c.loop-count.invariant in
    let now = c.args.now in
    let n = c.loop-count._count in
    let first = c.args.source.now in
    let s = c.loop-count.source in
    let t = c.send-sent.new.source in
    let sent = c.send-sent.result in
    let e = c.send-sent.ensures in (
      n + 1,
      run.0 ++ handed_of (polled now s) sent,
      omega arith,
      omega (arith, c.loop-count-test.true),
      Hands-append _ _ _ run.0 (handed_of (polled now s) sent) run.1 e.link,
      poll_given now n first s t run.3 e.source run.0 sent e.due run.2,
      poll_after now n first s t run.3 e.source,
      (λ few. poll_quiet now n first s t run.3 e.source sent e.due (c.is_none.ensures ∙ ap not c.if-is_none.true)),
    )

pub loop-count-preserved : goal.loop-count-preserved
loop-count-preserved g c =
    let run = c.loop-count.invariant in
    let now = c.args.now in
    let n = c.loop-count._count in
    let first = c.args.source.now in
    let s = c.loop-count.source in
    let t = c.send-sent.new.source in
    let sent = c.send-sent.result in
    let e = c.send-sent.ensures in (
      run.0 ++ handed_of (polled now s) sent,
      Hands-append _ _ _ run.0 (handed_of (polled now s) sent) run.1 e.link,
      poll_given now n first s t run.3 e.source run.0 sent e.due run.2,
      poll_after now n first s t run.3 e.source,
    )

pub returns : goal.returns
returns g c =
    let run = c.loop-count.invariant in
    (c.loop-count._count, run.0, omega (arith, c.loop-count-test.false), c.loop-count.auto._count-end, run.1, run.2, run.3, (λ few. absurd (omega (arith, few, c.loop-count-test.false))))
