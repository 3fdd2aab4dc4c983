use Rattle.std.proofs.Common.{◌≡◌, ◌<◌, ◌+◌, ◌++◌, ◌∙◌, sym, ap, subst, List, ℕ, length, get_or, take, arith}
use Rattle.sacn_schedule.specs.declared.event.Event.{Event}
use Rattle.sacn_world.specs.Worlds.{step}
use Rattle.sacn_edge.specs.Additions.{Adds}
use Rattle.sacn_edge.proofs.ToldLemmas.{Adds-append}
use Rattle.sacn_text.specs.Simulating.{simulated, line_of}
use Rattle.sacn_text.proofs.Simulates.{told_part, written_part, event_more}
use Rattle.sacn_text.proofs.simulate.simulate.Goals as goal

pub returns-in_default-clause-err : goal.returns-in_default-clause-err
returns-in_default-clause-err g c =
    let so = c.loop-i.invariant.so_far in
    let part = told_part (simulated c.args.world.now 0 c.args.events.now) so.0 c.loop-i.world c.args.events.now c.loop-i.i so.2 in
    (c.loop-i.invariant.works, (length so.0, subst (λ (l : List ℕ). Adds (g.O.Out.Tells c.args.out.now) (g.O.Out.Tells c.loop-i.out) l) (sym part) so.1))

pub returns-in-Err-OutOfMemory-clause-err : goal.returns-in-Err-OutOfMemory-clause-err
returns-in-Err-OutOfMemory-clause-err g c =
    let so = c.loop-i.invariant.so_far in
    let part = told_part (simulated c.args.world.now 0 c.args.events.now) so.0 c.loop-i.world c.args.events.now c.loop-i.i so.2 in
    (c.loop-i.invariant.works, (length so.0, subst (λ (l : List ℕ). Adds (g.O.Out.Tells c.args.out.now) (g.O.Out.Tells c.loop-i.out) l) (sym part) so.1))

pub returns-in_default-write_text-clause-err : goal.returns-in_default-write_text-clause-err
returns-in_default-write_text-clause-err g c =
    let es : List Event = c.args.events.now in
    let so = c.loop-i.invariant.so_far in
    let e : Event = c.index-events-i.result in
    let is = ap (step c.loop-i.world) (sym c.index-events-i.is) ∙ c.in-Ok.ensures in
    let bad = c.in_default-write_text.ensures.err in
    let n : ℕ = bad.1.0 in
    let same : c.as_slice.result.now ≡ line_of (get_or es c.loop-i.i e) c.in-Ok.answer = c.as_slice.ensures.value ∙ c.in-Ok-line_of.ensures ∙ ap (λ (x : Event). line_of x c.in-Ok.answer) c.index-events-i.is in
    let part = written_part (simulated c.args.world.now 0 es) so.0 c.loop-i.world es c.loop-i.i so.2 e (omega arith) c.in-Ok.answer c.step.new.self is n (subst (λ (l : List ℕ). n < length l) same bad.1.1) in
    let path = ap (λ (l : List ℕ). so.0 ++ take n l) same ∙ sym part.1 in
    (bad.0, (length so.0 + n, part.0, subst (λ (l : List ℕ). Adds (g.O.Out.Tells c.args.out.now) (g.O.Out.Tells c.write_text.new.out) l) path (Adds-append so.0 (take n c.as_slice.result.now) so.1 bad.1.2)))

pub loop-i-preserved : goal.loop-i-preserved
loop-i-preserved g c =
    let es : List Event = c.args.events.now in
    let so = c.loop-i.invariant.so_far in
    let e : Event = c.index-events-i.result in
    let is = ap (step c.loop-i.world) (sym c.index-events-i.is) ∙ c.in-Ok.ensures in
    let ok = c.in-Ok-write_text.ensures.ok in
    let line : List ℕ = line_of (get_or es c.loop-i.i e) c.in-Ok.answer in
    let same : c.as_slice.result.now ≡ line = c.as_slice.ensures.value ∙ c.in-Ok-line_of.ensures ∙ ap (λ (x : Event). line_of x c.in-Ok.answer) c.index-events-i.is in
    record {
      works = ok.0;
      so_far = (
        so.0 ++ line,
        subst (λ (l : List ℕ). Adds (g.O.Out.Tells c.args.out.now) (g.O.Out.Tells c.write_text.new.out) l) (ap (λ (l : List ℕ). so.0 ++ l) same) (Adds-append so.0 c.as_slice.result.now so.1 ok.1),
        event_more (simulated c.args.world.now 0 es) so.0 c.loop-i.world es c.loop-i.i so.2 e (omega arith) c.in-Ok.answer c.step.new.self is,
      );
    }
