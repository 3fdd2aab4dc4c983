use Rattle.std.proofs.Common.{rules, arith, ◌≡◌, ℕ, ◌∷◌, [], map, refl, sym, ap, subst, ◌∙◌}
use Rattle.std.proofs.lemmas.Result.{err_from_is_err_and}
use Rattle.sacn_node.specs.Setup.{port_numbers}
use Rattle.sacn_node.specs.Cores.{Node}
use Rattle.sacn_node.specs.Calls.{step}
use Rattle.sacn_node.specs.Showings.{IsNewsOf, port_after, ports_of}
use Rattle.sacn_node.proofs.Looks.{unseen_numbers}
use Rattle.sacn_edge.specs.declared.report.NodeReport.{NodeReport}
use Rattle.sacn_edge.specs.Additions.{Adds}
use Rattle.sacn_edge.specs.Hearings.{heard_of, is_datagram, is_failure}
use Rattle.sacn_edge.specs.NodeText.{Turn, call_at, node_after, lines_after}
use Rattle.sacn_edge.specs.PortLines.{FailsAmong, ports_text}
use Rattle.sacn_edge.proofs.PortLineLemmas.{Adds-nil, news_fail, news_text}
use Rattle.sacn_edge.proofs.NodeLemmas.{rising_distinct, numbers, nothing_seen, Remembers, more_text, more_remembered, more_numbers, stops_in, turned_more, counted, nothing_told}
use Rattle.sacn_edge.proofs.node_loop.run_node.Goals as goal

pub loop-turn-init : goal.loop-turn-init
loop-turn-init g c =
    let ports = port_numbers c.args.core.now.ports in
    record {
      works = c.requires;
      few = search rules;
      showing = c.new-showing.ensures.showing;
      distinct = rising_distinct ports c.new-showing.ensures.rising;
      run = (
        [],
        refl,
        nothing_told _ _,
        Adds-nil _,
        refl,
        refl,
        ap numbers c.new-showing.ensures.ports ∙ unseen_numbers ports,
        subst (Remembers []) (sym c.new-showing.ensures.ports) (nothing_seen ports),
      );
    }

pub returns-in_err-write_ports-clause-err : goal.returns-in_err-write_ports-clause-err
returns-in_err-write_ports-clause-err g c =
    let p = err_from_is_err_and c.from_residual.result c.from_residual.ensures.1 in
    let h = c.hear-hearing.ensures in
    let run = c.loop-turn.invariant.run in
    let first = c.args.core.now in
    let n = c.hear-hearing.new.core in
    let t : Turn = record { now = c.hear-hearing.result.now; heard = heard_of c.hear-hearing.result.received c.hear-hearing.new.buffer } in
    let is : n ≡ node_after first (t ∷ run.0) = h.core ∙ ap (step (call_at t.now t.heard)) run.4 in
    let ss = ports_of c.loop-turn.showing in
    let seen : ports_of c.look.new.self ≡ map (port_after n) ss = c.look.ensures.ports ∙ ap (map (port_after n)) h.ports in
    let news : IsNewsOf c.news.result.now (ports_of c.look.new.self) = subst (λ ps. IsNewsOf ps (ports_of c.look.new.self)) (sym c.news.ensures) c.look.ensures.news in
    let moment : c.moment.result ≡ n.core.moment = c.moment.ensures ∙ ap (λ (m : Node). m.core.moment) c.look.ensures.core in
    let from = g.O.Out.Tells c.loop-turn.out in
    let to = g.O.Out.Tells c.write_ports.new.out in
    rw p.1 (
      t,
      run.0,
      omega (arith, run.1, c.loop-turn-test.true, c.loop-turn.auto._turn-end),
      turned_more _ _ _ _ _ _ run.0 t run.2 h.clock h.link,
      stops_in first n ss t run.0 is run.6 c.loop-turn.invariant.distinct run.7 _ _ _ run.3
          (subst (λ (m : ℕ). FailsAmong m (map (port_after n) ss) from to) moment (subst (λ ps. FailsAmong c.moment.result ps from to) seen
          (news_fail c.moment.result c.news.result.now (ports_of c.look.new.self) from to news c.in_err-write_ports.ensures.err.1))),
      c.look.ensures.core ∙ is,
    )

pub loop-turn-preserved : goal.loop-turn-preserved
loop-turn-preserved g c =
    let h = c.hear-hearing.ensures in
    let run = c.loop-turn.invariant.run in
    let first = c.args.core.now in
    let ts = run.0 in
    let n = c.hear-hearing.new.core in
    let t : Turn = record { now = c.hear-hearing.result.now; heard = heard_of c.hear-hearing.result.received c.hear-hearing.new.buffer } in
    let is : n ≡ node_after first (t ∷ ts) = h.core ∙ ap (step (call_at t.now t.heard)) run.4 in
    let ss = ports_of c.loop-turn.showing in
    let distinct = c.loop-turn.invariant.distinct in
    let seen : ports_of c.look.new.self ≡ map (port_after n) ss = c.look.ensures.ports ∙ ap (map (port_after n)) h.ports in
    let news : IsNewsOf c.news.result.now (ports_of c.look.new.self) = subst (λ ps. IsNewsOf ps (ports_of c.look.new.self)) (sym c.news.ensures) c.look.ensures.news in
    let moment : c.moment.result ≡ n.core.moment = c.moment.ensures ∙ ap (λ (m : Node). m.core.moment) c.look.ensures.core in
    let from = g.O.Out.Tells c.loop-turn.out in
    let to = g.O.Out.Tells c.write_ports.new.out in
    let ok = c.in_ok-write_ports.ensures.ok in
    let received = counted (λ (t : Turn). is_datagram t.heard) ts t _ _ (ap (λ (r : NodeReport). r.received) run.5) (c.count.ensures.received c.hear-hearing.new.buffer) in
    let failed = counted (λ (t : Turn). is_failure t.heard) ts t _ _ (ap (λ (r : NodeReport). r.failed) run.5) (c.count.ensures.failed c.hear-hearing.new.buffer) in
    record {
      works = ok.0;
      few = omega (arith, c.count.ensures.few, c.loop-turn.invariant.few);
      distinct = distinct;
      showing = c.look.ensures.showing;
      run = (
        t ∷ ts,
        omega (arith, run.1),
        turned_more _ _ _ _ _ _ ts t run.2 h.clock h.link,
        more_text first n ss t ts is run.6 distinct run.7 _ _ _ run.3
            (subst (λ (m : ℕ). Adds from to (ports_text m (map (port_after n) ss))) moment
            (subst (Adds from to) (news_text c.moment.result c.news.result.now (ports_of c.look.new.self) news ∙ ap (ports_text c.moment.result) seen) ok.1)),
        c.look.ensures.core ∙ is,
        (λ i. record { received = received i; failed = failed i }),
        ap numbers seen ∙ more_numbers first n ss t ts is run.6 distinct run.7,
        subst (Remembers (lines_after first (t ∷ ts))) (sym seen) (more_remembered first n ss t ts is run.6 distinct run.7),
      );
    }
