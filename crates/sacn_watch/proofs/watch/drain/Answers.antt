use Rattle.std.proofs.Common.{◌∷◌, [], refl, ◌∙◌, arith}
use Rattle.std.proofs.lemmas.List.{length-map}
use Rattle.std.proofs.lemmas.Result.{err_from_is_err_and}
use Rattle.sacn_edge.proofs.NodeLemmas.{Extends-append}
use Rattle.sacn_machine.specs.Hearings.{in_order}
use Rattle.sacn_watch.specs.Watches.{Receive, heard_in, calls_for, calls_in}
use Rattle.sacn_watch.proofs.Handing.{Extends-none, handed_more, no_more}
use Rattle.sacn_watch.proofs.watch.drain.Goals as goal

pub loop-count-init : goal.loop-count-init
loop-count-init g c = ([], refl, Extends-none _, refl, λ calls was. was)

pub returns-in_err-is_more : goal.returns-in_err-is_more
returns-in_err-is_more g c =
    let p = err_from_is_err_and c.from_residual.result c.from_residual.ensures.1 in
    let run = c.loop-count.invariant in
    let h = c.hear.ensures in
    rw p.1 (h.0 ∷ run.0, Extends-append _ _ _ (in_order (heard_in run.0)) (h.0.hearing ∷ []) run.2 h.1, h.2, tt)

pub returns-then-not-is_more : goal.returns-then-not-is_more
returns-then-not-is_more g c =
    let run = c.loop-count.invariant in
    let h = c.in_ok-is_more.ensures in (
      h.0 ∷ run.0,
      Extends-append _ _ _ (in_order (heard_in run.0)) (h.0.hearing ∷ []) run.2 h.1,
      h.2,
      (
        λ ends. no_more _ _ c.if-not-is_more.true h.3.0 ends,
        handed_more g.W.Watcher.Handed c.args.watcher.now c.loop-count.watcher c.hear.new.watcher (calls_in run.0) (calls_for h.0.hearing.now h.0.port h.0.hearing.came) run.4 h.3.1,
      ),
    )

pub loop-count-preserved : goal.loop-count-preserved
loop-count-preserved g c =
    let run = c.loop-count.invariant in
    let h = c.in_ok-is_more.ensures in (
      h.0 ∷ run.0,
      omega (arith, run.1),
      Extends-append _ _ _ (in_order (heard_in run.0)) (h.0.hearing ∷ []) run.2 h.1,
      h.2,
      handed_more g.W.Watcher.Handed c.args.watcher.now c.loop-count.watcher c.hear.new.watcher (calls_in run.0) (calls_for h.0.hearing.now h.0.port h.0.hearing.came) run.4 h.3.1,
    )

pub returns : goal.returns
returns g c =
    let run = c.loop-count.invariant in (
      run.0,
      run.2,
      run.3,
      (λ ends. length-map run.0 (λ (r : Receive). r.hearing) ∙ omega (arith, run.1, c.loop-count-test.false, c.loop-count.auto._count-end), run.4),
    )
