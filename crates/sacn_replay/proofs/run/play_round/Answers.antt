use Rattle.sacn_replay.specs.Runs.{Round, played}
use Rattle.sacn_replay.proofs.Rounds.{ordered_more, over_is, talk_round}
use Rattle.sacn_replay.proofs.run.play_round.Goals as goal

pub returns : goal.returns
returns g c = λ p holds.
    let now = c.now-now.result in
    let d = c.play_due-came_to.ensures p holds in
    let o = c.take_order-is_ordered.ensures in
    let e = c.close.ensures in
    let r : Round = record { now = now; steps = d.0; came_to = c.play_due-came_to.result; order = o.0; ends = e.0 } in
    let is = ordered_more now o.0 (played now d.0 p) _ _ o.3 d.5.1 in (
      r,
      d.1,
      (d.2, o.1),
      c.now-now.ensures.told,
      talk_round r p _ o.4 _ c.next_of.ensures _ _ _ _ c.take_order-is_ordered.new.core is o.2 c.look.ensures.told e.1,
      d.3,
      d.4,
      (d.5.0, is),
      over_is r p _ o.4 _ c.next_of.ensures _ e.2,
    )
