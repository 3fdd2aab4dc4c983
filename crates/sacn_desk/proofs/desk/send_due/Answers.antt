use Rattle.std.proofs.Common.{rules, arith, ◌+◌, ◌++◌, [], refl, sym, ap, ◌∙◌, not}
use Rattle.sacn_edge.specs.ConsoleSends.{Handed, sent_at, handed_of, sends_report}
use Rattle.sacn_edge.specs.declared.report.ConsoleReport.{ConsoleReport}
use Rattle.sacn_edge.proofs.ConsoleLemmas.{refused_kept, Hands-append, Hands-nil, append_nil}
use Rattle.sacn_desk.proofs.Rounding.{core_polled, sent_polled, report_polled, quiet_polled}
use Rattle.sacn_desk.proofs.desk.send_due.Goals as goal

pub loop-count-init : goal.loop-count-init
loop-count-init g c = record {
  few = search rules;
  refused = refl;
  run = ([], Hands-nil _, refl, refl, λ earlier refused before. before ∙ ap (λ (l : Handed). sends_report l refused) (sym (append_nil earlier)));
}

pub count-requires : goal.count-requires
count-requires g c = omega (arith, c.requires, c.loop-count.invariant.few, c.loop-count-test.true)

pub returns-then-is_none-clause-sent : goal.returns-then-is_none-clause-sent
returns-then-is_none-clause-sent g c =
    let run = c.loop-count.invariant.run in
    let now = c.args.now in
    let n = c.loop-count._count in
    let core = c.loop-count.core in
    let new = c.send-sent.new.core in
    let sent = c.send-sent.result in
    let e = c.send-sent.ensures in
    let first = c.args.core.now in
    let none = c.is_none.ensures ∙ ap not c.if-is_none.true in (
      n + 1,
      run.0 ++ handed_of (sent_at now core) sent,
      omega arith,
      omega (arith, c.loop-count-test.true),
      Hands-append _ _ _ run.0 (handed_of (sent_at now core) sent) run.1 e.link,
      sent_polled now n first core new run.3 e.core sent e.due run.0 run.2,
      core_polled now n first core new run.3 e.core sent e.due,
      (λ few. quiet_polled now n first core new run.3 e.core sent e.due none),
      report_polled now n first core new run.3 e.core sent e.due c.args.report.now c.loop-count.report c.count.new.report run.0 run.4 c.count.ensures.report,
    )

pub returns-then-is_none-clause-few : goal.returns-then-is_none-clause-few
returns-then-is_none-clause-few g c = omega (arith, c.count.ensures.few, c.loop-count.invariant.few, c.loop-count-test.true)

pub loop-count-preserved : goal.loop-count-preserved
loop-count-preserved g c =
    let run = c.loop-count.invariant.run in
    let now = c.args.now in
    let n = c.loop-count._count in
    let core = c.loop-count.core in
    let new = c.send-sent.new.core in
    let sent = c.send-sent.result in
    let e = c.send-sent.ensures in
    let first = c.args.core.now in
    record {
      few = omega (arith, c.count.ensures.few, c.loop-count.invariant.few);
      refused = ap (λ (r : ConsoleReport). r.refused) c.count.ensures.report ∙ refused_kept c.send-sent.result c.loop-count.report ∙ c.loop-count.invariant.refused;
      run = (
        run.0 ++ handed_of (sent_at now core) sent,
        Hands-append _ _ _ run.0 (handed_of (sent_at now core) sent) run.1 e.link,
        sent_polled now n first core new run.3 e.core sent e.due run.0 run.2,
        core_polled now n first core new run.3 e.core sent e.due,
        report_polled now n first core new run.3 e.core sent e.due c.args.report.now c.loop-count.report c.count.new.report run.0 run.4 c.count.ensures.report,
      );
    }

pub returns-clause-sent : goal.returns-clause-sent
returns-clause-sent g c =
    let run = c.loop-count.invariant.run in
    (c.loop-count._count, run.0, omega (arith, c.loop-count-test.false), c.loop-count.auto._count-end, run.1, run.2, run.3, (λ few. absurd (omega (arith, few, c.loop-count-test.false))), run.4)

pub returns-clause-few : goal.returns-clause-few
returns-clause-few g c = omega (arith, c.loop-count.invariant.few, c.loop-count.auto._count-end)

pub returns-then-is_none-clause-refused : goal.returns-then-is_none-clause-refused
returns-then-is_none-clause-refused g c = ap (λ (r : ConsoleReport). r.refused) c.count.ensures.report ∙ refused_kept c.send-sent.result c.loop-count.report ∙ c.loop-count.invariant.refused

pub returns-clause-refused : goal.returns-clause-refused
returns-clause-refused g c = c.loop-count.invariant.refused
