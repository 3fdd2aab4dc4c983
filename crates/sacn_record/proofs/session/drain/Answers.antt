use Rattle.std.proofs.Common.{◌∷◌, [], refl, sym, append-nil}
use Rattle.std.proofs.lemmas.Result.{err_from_is_err_and}
use Rattle.sacn_edge.proofs.NodeLemmas.{Extends-append}
use Rattle.sacn_record.specs.Hearing.{in_order, asked_of, asked_in}
use Rattle.sacn_record.proofs.Taping.{fit_both}
use Rattle.sacn_record.proofs.Rounds.{Extends-none, blocks_more, count_more}
use Rattle.sacn_record.proofs.session.drain.Goals as goal

pub loop-count-init : goal.loop-count-init
loop-count-init g c = ([], Extends-none _, refl, sym (append-nil c.args.waiting.now.blocks.items), refl, tt)

pub returns-in_err-is_more : goal.returns-in_err-is_more
returns-in_err-is_more g c =
    let p = err_from_is_err_and c.from_residual.result c.from_residual.ensures.1 in
    let run = c.loop-count.invariant in
    let h = c.hear.ensures in
    rw p.1 (h.0 ∷ run.0, Extends-append _ _ _ (in_order run.0) (h.0 ∷ []) run.1 h.1, h.2, tt)

pub returns-then-not-is_more : goal.returns-then-not-is_more
returns-then-not-is_more g c =
    let run = c.loop-count.invariant in
    let h = c.in_ok-is_more.ensures in
    let plan = c.args.plan.now in (
      h.0 ∷ run.0,
      Extends-append _ _ _ (in_order run.0) (h.0 ∷ []) run.1 h.1,
      h.2,
      (
        blocks_more _ _ _ (asked_in plan run.0) (asked_of plan h.0.datagram) run.3 h.3.0,
        count_more _ _ _ (asked_in plan run.0) (asked_of plan h.0.datagram) run.4 h.3.1,
        fit_both (asked_in plan run.0) (asked_of plan h.0.datagram) run.5 h.3.2,
      ),
    )

pub loop-count-preserved : goal.loop-count-preserved
loop-count-preserved g c =
    let run = c.loop-count.invariant in
    let h = c.in_ok-is_more.ensures in
    let plan = c.args.plan.now in (
      h.0 ∷ run.0,
      Extends-append _ _ _ (in_order run.0) (h.0 ∷ []) run.1 h.1,
      h.2,
      blocks_more _ _ _ (asked_in plan run.0) (asked_of plan h.0.datagram) run.3 h.3.0,
      count_more _ _ _ (asked_in plan run.0) (asked_of plan h.0.datagram) run.4 h.3.1,
      fit_both (asked_in plan run.0) (asked_of plan h.0.datagram) run.5 h.3.2,
    )

pub returns : goal.returns
returns g c =
    let run = c.loop-count.invariant in
    (run.0, run.1, run.2, (run.3, run.4, run.5))
