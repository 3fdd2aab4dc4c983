use Rattle.std.proofs.Common.{rules, arith, ◌≡◌, ◌∷◌, ◌++◌, [], ◌+◌, refl, sym, ap, subst, ◌∙◌, true≢false}
use Rattle.sacn_edge.specs.declared.report.ConsoleReport.{ConsoleReport}
use Rattle.sacn_edge.specs.Additions.{Extends}
use Rattle.sacn_edge.specs.ConsoleSends.{sends_report}
use Rattle.sacn_edge.proofs.NodeLemmas.{Extends-append}
use Rattle.sacn_edge.proofs.ConsoleLemmas.{Hands-append, Hands-nil, Extends-nil}
use Rattle.sacn_desk.specs.DeskSends.{Round, desk_refusals, readings, given, asked_last}
use Rattle.sacn_machine.proofs.Untold.{Extends-none}
use Rattle.sacn_desk.proofs.Rounding.{core_round, sends_round, talk_round, refused_round, quiet_round, run_made}
use Rattle.sacn_desk.proofs.desk.run_desk.Goals as goal

pub loop-round-init : goal.loop-round-init
loop-round-init g c = record {
  few = search rules;
  refusals = search rules;
  run = ([], [], refl, Extends-nil _, Extends-none _, Hands-nil _, refl, refl, tt, refl, tt);
}

pub overflow_add-report : goal.overflow_add-report
overflow_add-report g c = omega (arith, c.requires, c.order.ensures.few, c.loop-round.invariant.refusals, c.loop-round-test.true)

pub send_due-requires : goal.send_due-requires
send_due-requires g c = omega (arith, c.requires, c.loop-round.invariant.few, c.loop-round-test.true)

pub returns-then-has_ended : goal.returns-then-has_ended
returns-then-has_ended g c =
    let run = c.loop-round.invariant.run in
    let rs = run.0 in
    let handed = run.1 in
    let now = c.now-now.result in
    let first = c.args.core.now in
    let core = c.loop-round.core in
    let o = c.order.ensures.given in
    let ks = o.0 in
    let s = c.send_due.ensures.sent in
    let n = s.0 in
    let mid = c.order.new.core in
    let new = c.send_due.new.core in
    let waited = subst (λ t. Extends t (g.O.Orders.told c.order.new.orders) (given now ks core ++ asked_last now ks)) c.wait.ensures.told o.2 in
    let told = subst (λ t. Extends (g.O.Orders.told c.loop-round.orders) t (given now ks core ++ asked_last now ks)) (sym c.look.ensures.told) waited in
    let refused = c.loop-round.report.refused + c.order.result in
    let before : record { sent = c.loop-round.report.sent; failed = c.loop-round.report.failed; refused = refused } ≡ sends_report handed (desk_refusals first rs + c.order.result) =
    ap (λ (r : ConsoleReport). let s : ConsoleReport = record { sent = r.sent; failed = r.failed; refused = r.refused + c.order.result } in s) run.9 in
    let ends = c.has_ended.result in
    let round : Round = record { now = now; orders = ks; polls = n; ends = ends } in (
      round ∷ rs,
      handed ++ s.1,
      (run.10, omega (arith, run.2, c.loop-round-test.true, c.loop-round.auto._round-end), λ goes_on. absurd (true≢false (sym c.if-has_ended.true ∙ goes_on))),
      Extends-append _ _ _ (readings rs) (now ∷ []) run.3 c.now-now.ensures.told,
      talk_round first core mid new rs now n ks ends run.7 o.3 s.6 _ _ _ _ run.4 told c.has_ended.ensures.told,
      Hands-append _ _ _ handed s.1 run.5 s.4,
      sends_round first core mid new rs now n ks ends run.7 o.3 s.6 handed s.1 run.6 s.5,
      core_round first core mid new rs now n ks ends run.7 o.3 s.6,
      quiet_round first core mid new rs now n ks ends run.7 o.3 s.6 run.8 s.2 s.3 s.7,
      s.8 handed (desk_refusals first rs + c.order.result) before ∙ ap (sends_report (handed ++ s.1)) (refused_round first core mid new rs now n ks ends run.7 o.3 s.6 (desk_refusals first rs) c.order.result refl o.4),
    )

pub loop-round-preserved : goal.loop-round-preserved
loop-round-preserved g c =
    let run = c.loop-round.invariant.run in
    let rs = run.0 in
    let handed = run.1 in
    let now = c.now-now.result in
    let first = c.args.core.now in
    let core = c.loop-round.core in
    let o = c.order.ensures.given in
    let ks = o.0 in
    let s = c.send_due.ensures.sent in
    let n = s.0 in
    let mid = c.order.new.core in
    let new = c.send_due.new.core in
    let waited = subst (λ t. Extends t (g.O.Orders.told c.order.new.orders) (given now ks core ++ asked_last now ks)) c.wait.ensures.told o.2 in
    let told = subst (λ t. Extends (g.O.Orders.told c.loop-round.orders) t (given now ks core ++ asked_last now ks)) (sym c.look.ensures.told) waited in
    let refused = c.loop-round.report.refused + c.order.result in
    let before : record { sent = c.loop-round.report.sent; failed = c.loop-round.report.failed; refused = refused } ≡ sends_report handed (desk_refusals first rs + c.order.result) =
    ap (λ (r : ConsoleReport). let s : ConsoleReport = record { sent = r.sent; failed = r.failed; refused = r.refused + c.order.result } in s) run.9 in
    let ends = c.has_ended.result in
    let round : Round = record { now = now; orders = ks; polls = n; ends = ends } in
    record {
      few = omega (arith, c.send_due.ensures.few, c.loop-round.invariant.few);
      refusals = omega (arith, c.send_due.ensures.refused, c.order.ensures.few, c.loop-round.invariant.refusals);
      run = (
        round ∷ rs,
        handed ++ s.1,
        omega (arith, run.2),
        Extends-append _ _ _ (readings rs) (now ∷ []) run.3 c.now-now.ensures.told,
        talk_round first core mid new rs now n ks ends run.7 o.3 s.6 _ _ _ _ run.4 told c.has_ended.ensures.told,
        Hands-append _ _ _ handed s.1 run.5 s.4,
        sends_round first core mid new rs now n ks ends run.7 o.3 s.6 handed s.1 run.6 s.5,
        c.next_wait-wake.ensures.core ∙ core_round first core mid new rs now n ks ends run.7 o.3 s.6,
        quiet_round first core mid new rs now n ks ends run.7 o.3 s.6 run.8 s.2 s.3 s.7,
        s.8 handed (desk_refusals first rs + c.order.result) before ∙ ap (sends_report (handed ++ s.1)) (refused_round first core mid new rs now n ks ends run.7 o.3 s.6 (desk_refusals first rs) c.order.result refl o.4),
        (c.if-has_ended.false, run.10),
      );
    }

pub returns : goal.returns
returns g c =
    let run = c.loop-round.invariant.run in
    (run.0, run.1, run_made _ _ run.10 (omega (arith, run.2, c.loop-round-test.false, c.loop-round.auto._round-end)), run.3, run.4, run.5, run.6, run.7, run.8, run.9)
