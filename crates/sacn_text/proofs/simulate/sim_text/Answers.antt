use Rattle.std.proofs.Common.{List, ℕ}
use Rattle.sacn_edge.specs.Additions.{Adds}
use Rattle.sacn_text.proofs.Simulates.{stops_at, never_twins}
use Rattle.sacn_text.proofs.simulate.sim_text.Goals as goal

pub returns-in-Ok-new-clause-err : goal.returns-in-Ok-new-clause-err
returns-in-Ok-new-clause-err g c =
    stops_at c.simulate.result (g.O.Out.failed c.simulate.new.out) (λ (l : List ℕ). Adds (g.O.Out.Tells c.args.out.now) (g.O.Out.Tells c.simulate.new.out) l)
    c.args.world.now c.args.schedule.now _ c.in-Ok-read_schedule.events.items _ c.as_slice.result.now
    (record { world_is = c.in-Ok.ensures.world; events_are = c.in-Ok-read_schedule.ensures.exact })
    c.in-Ok-new.ensures.made.0 c.as_slice.ensures.value c.simulate.ensures.err

pub returns-clause-err : goal.returns-clause-err
returns-clause-err g c = absurd (never_twins _ c.in-Err-SameCid.field-0 c.in-Ok.ensures.different c.in-Err-SameCid.field-0-is c.in-Err-SameCid.ensures.refused)
