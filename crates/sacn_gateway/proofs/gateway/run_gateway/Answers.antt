use Rattle.std.proofs.Common.{arith, ◌≡◌, ℕ, ◌∷◌, [], refl, sym, subst, ap, ◌∙◌}
use Rattle.std.proofs.lemmas.Result.{err_from_is_err_and}
use Rattle.sacn_edge.specs.Additions.{Adds, Extends}
use Rattle.sacn_edge.specs.NodeText.{node_after}
use Rattle.sacn_edge.proofs.PortLineLemmas.{Adds-nil}
use Rattle.sacn_edge.proofs.ToldLemmas.{Adds-append}
use Rattle.sacn_machine.specs.Hearings.{in_order}
use Rattle.sacn_machine.proofs.Untold.{Extends-none}
use Rattle.sacn_gateway.specs.GatewayTurns.{turns_of, backlog_after}
use Rattle.sacn_gateway.specs.GatewayNodes.{cores_of, HasBegun, IsAsAlone, news_texts}
use Rattle.sacn_gateway.specs.GatewaysText.{turn_texts, gateways_text}
use Rattle.sacn_gateway.proofs.Turning.{run_ends, heard_more}
use Rattle.sacn_gateway.proofs.NodeLists.{pairwise_map, all_shown, moved_shown}
use Rattle.sacn_gateway.proofs.NodeTurns.{IsInRun, IsTurned, begun, as_alone, stopped_as_alone, all_turned, all_served, turned_texts, stops_at_one}
use Rattle.sacn_gateway.proofs.gateway.run_gateway.Goals as goal

pub loop-turn-init : goal.loop-turn-init
loop-turn-init g c =
    let starts = c.args.nodes.now in
    let nodes = c.begin_nodes.new.nodes in
    record {
      works = c.requires;
      shown = all_shown HasBegun (λ a b has. has.3) starts nodes c.begin_nodes.ensures;
      run = (
        [],
        refl,
        tt,
        tt,
        Extends-none _,
        Adds-nil _,
        pairwise_map HasBegun (IsInRun g.D.Device.told c.args.senders.now []) (λ a b has. begun g.D.Device.told c.args.senders.now a b has) starts nodes c.begin_nodes.ensures,
        c.none-waits.ensures,
      );
    }

pub look_at_nodes-requires : goal.look_at_nodes-requires
look_at_nodes-requires g c =
    moved_shown (λ n. node_after n (turns_of c.args.senders.now c.loop-turn.waits c.drain-drained.ensures.0)) c.loop-turn.nodes c.drain-drained.new.nodes c.drain-drained.ensures.3

pub returns-in_err-write_nodes-clause-err : goal.returns-in_err-write_nodes-clause-err
returns-in_err-write_nodes-clause-err g c =
    let p = err_from_is_err_and c.from_residual.result c.from_residual.ensures.1 in
    let heard = c.drain-drained.ensures in
    let hs = heard.0 in
    let run = c.loop-turn.invariant.run in
    let turns = run.0 in
    let senders = c.args.senders.now in
    let D = g.D.Device.told in
    let starts = c.args.nodes.now in
    let looked = c.look_at_nodes.new.nodes in
    let turned = all_turned D senders c.loop-turn.waits hs turns starts c.loop-turn.nodes c.drain-drained.new.nodes looked run.7 run.6 heard.3 c.look_at_nodes.ensures in
    let from = g.O.Out.Tells c.loop-turn.out in
    let to = g.O.Out.Tells c.write_nodes.new.out in
    let told = subst (λ t. Extends t (g.G.Receiver.told c.drain-drained.new.receiver) (in_order hs)) c.wait.ensures.told heard.2 in
    rw p.1 (
      hs,
      turns,
      run.2,
      omega (arith, run.1, c.loop-turn-test.true, c.loop-turn.auto._turn-end),
      (heard.1, run.3),
      heard_more _ _ _ hs turns run.4 told,
      stops_at_one D senders hs turns (g.O.Out.Tells c.args.out.now) from to starts looked turned run.5 c.in_err-write_nodes.ensures.err.1,
      pairwise_map (IsTurned D senders hs turns) (IsAsAlone D senders (hs ∷ turns) turns) (λ a d t. stopped_as_alone D senders hs turns a d t) starts looked turned,
    )

pub returns-then-now-span-clause-ok : goal.returns-then-now-span-clause-ok
returns-then-now-span-clause-ok g c =
    let heard = c.drain-drained.ensures in
    let hs = heard.0 in
    let run = c.loop-turn.invariant.run in
    let turns = run.0 in
    let senders = c.args.senders.now in
    let D = g.D.Device.told in
    let starts = c.args.nodes.now in
    let looked = c.look_at_nodes.new.nodes in
    let turned = all_turned D senders c.loop-turn.waits hs turns starts c.loop-turn.nodes c.drain-drained.new.nodes looked run.7 run.6 heard.3 c.look_at_nodes.ensures in
    let from = g.O.Out.Tells c.loop-turn.out in
    let to = g.O.Out.Tells c.write_nodes.new.out in
    let told = subst (λ t. Extends t (g.G.Receiver.told c.drain-drained.new.receiver) (in_order hs)) c.wait.ensures.told heard.2 in
    let served = c.serve_nodes.new.nodes in
    let ran = all_served D senders hs turns c.drain-drained.result.now starts looked served heard.5 turned c.serve_nodes.ensures in (
      hs ∷ turns,
      (run.2, omega (arith, run.1, c.loop-turn-test.true, c.loop-turn.auto._turn-end), λ before. absurd (omega (arith, before, heard.5, c.if-now-span.true))),
      (heard.1, run.3),
      heard_more _ _ _ hs turns run.4 told,
      Adds-append (gateways_text (cores_of starts) senders turns) (turn_texts (cores_of starts) senders hs turns) run.5
          (subst (Adds from to) (turned_texts D senders hs turns starts looked turned) c.in_ok-write_nodes.ensures.ok.1),
      pairwise_map (IsInRun D senders (hs ∷ turns)) (IsAsAlone D senders (hs ∷ turns) (hs ∷ turns)) (λ a b r. as_alone D senders (hs ∷ turns) a b r) starts served ran,
    )

pub loop-turn-preserved : goal.loop-turn-preserved
loop-turn-preserved g c =
    let heard = c.drain-drained.ensures in
    let hs = heard.0 in
    let run = c.loop-turn.invariant.run in
    let turns = run.0 in
    let senders = c.args.senders.now in
    let D = g.D.Device.told in
    let starts = c.args.nodes.now in
    let looked = c.look_at_nodes.new.nodes in
    let turned = all_turned D senders c.loop-turn.waits hs turns starts c.loop-turn.nodes c.drain-drained.new.nodes looked run.7 run.6 heard.3 c.look_at_nodes.ensures in
    let from = g.O.Out.Tells c.loop-turn.out in
    let to = g.O.Out.Tells c.write_nodes.new.out in
    let told = subst (λ t. Extends t (g.G.Receiver.told c.drain-drained.new.receiver) (in_order hs)) c.wait.ensures.told heard.2 in
    let served = c.serve_nodes.new.nodes in
    let ran = all_served D senders hs turns c.drain-drained.result.now starts looked served heard.5 turned c.serve_nodes.ensures in
    record {
      works = c.in_ok-write_nodes.ensures.ok.0;
      shown = all_shown (IsInRun D senders (hs ∷ turns)) (λ a b r. r.2) starts served ran;
      run = (
        hs ∷ turns,
        omega (arith, run.1),
        (omega (arith, heard.5, c.if-now-span.false), run.2),
        (heard.1, run.3),
        heard_more _ _ _ hs turns run.4 told,
        Adds-append (gateways_text (cores_of starts) senders turns) (turn_texts (cores_of starts) senders hs turns) run.5
            (subst (Adds from to) (turned_texts D senders hs turns starts looked turned) c.in_ok-write_nodes.ensures.ok.1),
        ran,
        heard.4 ∙ ap (λ e. backlog_after e hs) run.7,
      );
    }

pub returns-clause-ok : goal.returns-clause-ok
returns-clause-ok g c =
    let run = c.loop-turn.invariant.run in
    let turns = run.0 in
    let D = g.D.Device.told in
    let senders = c.args.senders.now in (
      turns,
      run_ends _ _ turns run.2 (omega (arith, run.1, c.loop-turn-test.false, c.loop-turn.auto._turn-end)),
      run.3,
      run.4,
      run.5,
      pairwise_map (IsInRun D senders turns) (IsAsAlone D senders turns turns) (λ a b r. as_alone D senders turns a b r) c.args.nodes.now c.loop-turn.nodes run.6,
    )

pub returns-clause-works : goal.returns-clause-works
returns-clause-works g c = c.loop-turn.invariant.works
