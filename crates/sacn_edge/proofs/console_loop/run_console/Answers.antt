use Rattle.std.proofs.Common.{rules, arith, ◌≡◌, ◌+◌, ◌∷◌, ◌++◌, [], max, length, ◌-◌, take, drop, refl, ap, ◌∙◌}
use Rattle.std.proofs.lemmas.List.{take_rest, length-take, length-drop}
use Rattle.sacn_edge.specs.declared.report.ConsoleReport.{ConsoleReport}
use Rattle.sacn_edge.specs.ConsoleSends.{Reader, come, commanded, refusals, refused_by, sent_at, handed_of, counted_send, in_order, sends_report}
use Rattle.sacn_edge.proofs.NodeLemmas.{Extends-append}
use Rattle.sacn_edge.proofs.ConsoleLemmas.{counted_more, Hands-append, Hands-nil, Extends-nil, refused_kept, core_more, reader_more, sends_more, refused_more}
use Rattle.sacn_edge.proofs.console_loop.run_console.Goals as goal

pub loop-turn-init : goal.loop-turn-init
loop-turn-init g c = record {
  few = search rules;
  within = search rules;
  refusals = search rules;
  run = ([], [], refl, Extends-nil _, Hands-nil _, refl, refl, refl, refl);
}

pub loop-turn-preserved : goal.loop-turn-preserved
loop-turn-preserved g c =
    let run = c.loop-turn.invariant.run in
    let readings = run.0 in
    let handed = run.1 in
    let first = c.args.core.now in
    let script = c.args.script.now in
    let core = c.loop-turn.core in
    let next = c.loop-turn.next in
    let greatest = c.loop-turn.greatest in
    let now = c.now-now.result in
    let given = c.order-given in
    let sent = c.send-sent.result in
    let rest = take_rest script next in
    let top : c.max-greatest.result ≡ max greatest now = c.max-greatest.ensures ∙ (search rules) in
    let lines = come (max greatest now) (drop next script) in
    let same : come c.max-greatest.result (take (length script - next) (drop next script)) ≡ lines =
    ap (λ k. come k (take (length script - next) (drop next script))) top ∙ ap (come (max greatest now)) rest in
    let gave : given.new.core ≡ commanded now lines core = given.ensures.core ∙ ap (λ ls. commanded now ls core) same in
    let many : given.result.lines ≡ length lines = given.ensures.lines ∙ ap length same in
    let refused : given.result.refused ≡ refusals now lines core = given.ensures.refused ∙ ap (λ ls. refusals now ls core) same in
    let due = c.send-sent.ensures.due in
    let before : ConsoleReport = record { sent = c.loop-turn.report.sent; failed = c.loop-turn.report.failed; refused = c.loop-turn.report.refused + given.result.refused } in
    let counted : before ≡ sends_report handed (refused_by first script readings + given.result.refused) =
    ap (λ (r : ConsoleReport). let s : ConsoleReport = record { sent = r.sent; failed = r.failed; refused = r.refused + given.result.refused } in s) run.6 in
    let sends = handed ++ handed_of (sent_at now given.new.core) sent in
    record {
      few = omega (arith, c.count.ensures.few, c.loop-turn.invariant.few);
      within = omega (arith, given.ensures.within, c.loop-turn.invariant.within, length-take (length script - next) (drop next script), length-drop next script);
      refusals = omega (arith, ap (λ (r : ConsoleReport). r.refused) c.count.ensures.report, refused_kept sent before, given.ensures.few, c.loop-turn.invariant.refusals);
      run = (
        now ∷ readings,
        sends,
        omega (arith, run.2),
        Extends-append _ _ _ (in_order readings) (now ∷ []) run.3 c.now-now.ensures.told,
        Hands-append _ _ _ handed (handed_of (sent_at now given.new.core) sent) run.4 c.send-sent.ensures.link,
        sends_more first script readings core next greatest now run.7 run.8 handed given.new.core sent gave due run.5,
        c.count.ensures.report
            ∙ ap (counted_send sent) counted
            ∙ counted_more handed (refused_by first script readings + given.result.refused) now given.new.core sent due
            ∙ ap (sends_report sends) (refused_more first script readings core next greatest now run.7 run.8 given.result.refused refused),
        core_more first script readings core next greatest now run.7 run.8 given.new.core c.send-sent.new.core gave c.send-sent.ensures.core,
        (λ i. let r : Reader = record { left = drop (next + given.result.lines) script; greatest = top i } in r)
            ∙ reader_more first script readings core next greatest now run.7 run.8 given.result.lines many,
      );
    }
