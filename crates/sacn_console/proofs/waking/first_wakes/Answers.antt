use Rattle.sacn_console.proofs.Openings.{more_wakes}
use Rattle.sacn_console.proofs.waking.first_wakes.Goals as goal

pub loop-place-preserved : goal.loop-place-preserved
loop-place-preserved c = more_wakes _ _ _ c.loop-place._place c.loop-place-test.true c.loop-place.invariant c.in_ok-push.ensures.items
