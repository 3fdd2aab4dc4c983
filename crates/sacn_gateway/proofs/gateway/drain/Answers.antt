use Rattle.std.proofs.Common.{arith, ◌-◌, ◌||◌, not, nat_lt, ◌∷◌, [], refl, sym, ◌∙◌}
use Rattle.sacn_node.specs.Calls.{step}
use Rattle.sacn_edge.specs.NodeText.{call_at, node_after}
use Rattle.sacn_edge.proofs.NodeLemmas.{Extends-append}
use Rattle.sacn_machine.specs.Hearings.{hearing_in, came_of, in_order}
use Rattle.sacn_gateway.specs.declared.limits.TheConstants.{TURN_SPAN}
use Rattle.sacn_gateway.specs.GatewayTurns.{turns_of, heard_of}
use Rattle.sacn_gateway.specs.GatewayNodes.{IsMoved}
use Rattle.sacn_gateway.proofs.Draining.{backlog_more, ended_is, ended_over, ended_full, goes_on}
use Rattle.sacn_gateway.proofs.NodeLists.{pairwise_join, moved_shown}
use Rattle.sacn_gateway.proofs.NodeTurns.{moved_more}
use Rattle.sacn_gateway.proofs.gateway.drain.Goals as goal

pub loop-count-init : goal.loop-count-init
loop-count-init g c =
    let r = c.hear-step.result in
    let new = c.hear-step.new in
    let e = c.hear-step.ensures in
    record {
      shown = moved_shown (step (call_at r.now (heard_of c.args.senders.now c.args.waits r.now (came_of r.arrival new.buffer)))) c.args.nodes.now new.nodes e.nodes;
      run = (hearing_in r.now r.arrival new.buffer, [], refl, sym e.more, e.told, e.nodes, e.waits, refl, refl, tt);
    }

pub returns-then-is_over : goal.returns-then-is_over
returns-then-is_over g c =
    let run = c.loop-count.invariant.run in
    let hs = run.0 ∷ run.1 in
    let ended = ended_is hs c.loop-count.step.is_more c.loop-count.step.now c.hear-step.result.now run.3 run.7 run.8 in
    (hs, (ended_over (not c.loop-count.step.is_more || not (nat_lt (c.loop-count.step.now - c.hear-step.result.now) TURN_SPAN)) c.is_over.result hs ended c.is_over.ensures c.if-is_over.true, run.9), run.4, run.5, run.6, run.7)

pub loop-count-preserved : goal.loop-count-preserved
loop-count-preserved g c =
    let r = c.hear-step-in-loop-count.result in
    let e = c.hear-step-in-loop-count.ensures in
    let new = c.hear-step-in-loop-count.new in
    let came = came_of r.arrival new.buffer in
    let run = c.loop-count.invariant.run in
    let hs = run.0 ∷ run.1 in
    let senders = c.args.senders.now in
    let ended = ended_is hs c.loop-count.step.is_more c.loop-count.step.now c.hear-step.result.now run.3 run.7 run.8 in
    record {
      shown = moved_shown (step (call_at r.now (heard_of senders c.loop-count.step.waits r.now came))) c.loop-count.nodes new.nodes e.nodes;
      run = (
        hearing_in r.now r.arrival new.buffer,
        hs,
        omega (arith, run.2),
        sym e.more,
        Extends-append _ _ _ (in_order hs) (hearing_in r.now r.arrival new.buffer ∷ []) run.4 e.told,
        pairwise_join
            (IsMoved (λ n. node_after n (turns_of senders c.args.waits hs)))
            (IsMoved (step (call_at r.now (heard_of senders c.loop-count.step.waits r.now came))))
            (IsMoved (λ n. node_after n (turns_of senders c.args.waits (hearing_in r.now r.arrival new.buffer ∷ hs))))
            (λ x y z first next. moved_more senders c.args.waits c.loop-count.step.waits r.now came hs x y z run.6 first next)
            c.args.nodes.now c.loop-count.nodes new.nodes run.5 e.nodes,
        backlog_more c.args.waits c.loop-count.step.waits r.now r.waits came hs run.6 e.waits,
        refl,
        run.8,
        (goes_on _ _ hs ended c.is_over.ensures c.if-is_over.false (omega (arith, run.2, c.loop-count-test.true)), run.9),
      );
    }

pub returns : goal.returns
returns g c =
    let run = c.loop-count.invariant.run in
    let hs = run.0 ∷ run.1 in
    let ended = ended_is hs c.loop-count.step.is_more c.loop-count.step.now c.hear-step.result.now run.3 run.7 run.8 in
    (hs, (ended_full _ hs ended (omega (arith, run.2, c.loop-count-test.false, c.loop-count.auto._count-end)), run.9), run.4, run.5, run.6, run.7)
