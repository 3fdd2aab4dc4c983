use Rattle.std.proofs.Common.{sym, ap, ◌∙◌, arith, Some}
use Rattle.sacn_world.proofs.Ran.{ran_more, read_at, stopped_at}
use Rattle.sacn_world.proofs.world.World.run.Goals as goal

pub returns-in-Err-clause-stopped : goal.returns-in-Err-clause-stopped
returns-in-Err-clause-stopped c =
    let ee = read_at c.args.events.now c.loop-place.place c.index-events-place.result (omega arith) c.index-events-place.is in
    stopped_at c.args.self.now c.args.events.now c.loop-place.place c.index-events-place.result c.loop-place.answers.items c.loop-place.self c.step.new.self c.in-Err.fault ee c.loop-place.invariant.0 c.in-Err.ensures

pub loop-place-preserved : goal.loop-place-preserved
loop-place-preserved c =
    let ee = read_at c.args.events.now c.loop-place.place c.index-events-place.result (omega arith) c.index-events-place.is in
    let more = ran_more c.args.self.now c.args.events.now c.loop-place.place c.index-events-place.result c.loop-place.answers.items c.loop-place.self c.in-Ok-step.answer c.step.new.self ee c.loop-place.invariant.0 c.in-Ok-step.ensures in
    (more ∙ ap (λ xs. Some (record { answers = xs; world = c.step.new.self })) (sym c.push_reserved.ensures.items), omega (arith, c.push_reserved.ensures.len, c.loop-place.invariant.1), omega (arith, c.push_reserved.ensures.capacity, c.loop-place.invariant.2))
