use Rattle.sacn_replay.specs.declared.step.Step.{Step}
use Rattle.sacn_replay.proofs.Rounds.{core_is, reel_is, sent_is, step_is}
use Rattle.sacn_replay.proofs.run.make_step.Goals as goal

pub returns : goal.returns
returns g c =
    let now = c.args.now in
    let m = c.moment-moment in
    let s = c.next-step in
    let step : Step = s.result in
    let core = c.args.core.now in
    let told = g.T.RecordReader.told c.args.tape.now in
    let mid = g.T.RecordReader.told m.new.self in
    let h = c.hand_over.ensures in
    λ p holds. (
      h.0,
      h.1,
      sent_is now told mid core p m.result step holds m.ensures.told m.ensures.next s.ensures.step h.0 h.2,
      step_is now told mid core p m.result step holds m.ensures.told m.ensures.next s.ensures.step,
      (
        reel_is now told mid core p m.result step holds m.ensures.told m.ensures.next s.ensures.step _ c.wind.ensures,
        core_is now told mid core p m.result step holds m.ensures.told m.ensures.next s.ensures.step s.new.self s.ensures.core,
      ),
    )
