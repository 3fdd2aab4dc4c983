use Rattle.std.proofs.Common.{arith, ap, ◌∙◌}
use Rattle.sacn_cues.specs.Playing.{Played}
use Rattle.sacn_console.specs.Lights.{Lights}
use Rattle.sacn_console.specs.Core.{no_line}
use Rattle.sacn_console.proofs.Frames.{settled}
use Rattle.sacn_console.proofs.WakeCores.{quiet_until, due_then, due_now, lies_ahead}
use Rattle.sacn_console.proofs.console.ConsoleCore.line_wake.Goals.{in-Some, in-None}
use Rattle.sacn_console.proofs.console.ConsoleCore.line_wake.Goals as goal

pub first_due-found-requires-clause-wakes : goal.first_due-found-requires-clause-wakes
first_due-found-requires-clause-wakes c = rw (c.at.ensures.at ∙ settled c.self.inside.player c.self.inside.moment c.self.invariant.core.clock, c.deref.ensures.value) c.self.invariant.wakes_ok

pub returns-clause-quiet : goal.returns-clause-quiet
returns-clause-quiet c =
    let lights = ap (λ (p : Played). let l : Lights = record { patch = c.self.inside.patch; player = p } in l) (c.at.ensures.at ∙ settled c.self.inside.player c.self.inside.moment c.self.invariant.core.clock) in
    elim c.match-found.branch [
      | in-Some w ↦ λ t before. absurd (omega (arith, before, w.result-is))
      | in-None w ↦ λ t before. quiet_until _ c.args.self.now _ _ _ w.first.result t c.self.view_is lights c.deref.ensures.value w.in-None.ensures.wakes w.in-None.ensures.found w.first.ensures.least (omega (arith, before, w.result-is))
    ]

pub returns-clause-exact : goal.returns-clause-exact
returns-clause-exact c =
    let lights = ap (λ (p : Played). let l : Lights = record { patch = c.self.inside.patch; player = p } in l) (c.at.ensures.at ∙ settled c.self.inside.player c.self.inside.moment c.self.invariant.core.clock) in
    elim c.match-found.branch [
      | in-Some w ↦ λ still before. rw w.result-is (due_now _ c.args.self.now _ _ _ c.self.view_is lights c.deref.ensures.value (w.in-Some.ensures.found.1 no_line).0)
      | in-None w ↦ λ still before. rw w.result-is (due_then _ c.args.self.now _ _ _ w.first.result c.self.view_is lights c.deref.ensures.value w.in-None.ensures.wakes w.in-None.ensures.ahead still (omega (arith, before, w.result-is)) (w.first.ensures.attained (omega (arith, before, w.result-is))))
    ]

pub returns-clause-ahead : goal.returns-clause-ahead
returns-clause-ahead c = elim c.match-found.branch [
  | in-Some w ↦ λ some. absurd (omega (arith, some, w.result-is))
  | in-None w ↦ λ some. rw w.result-is (lies_ahead _ c.args.self.now c.first_due-found.new.wakes w.first.result c.self.view_is w.in-None.ensures.ahead w.first.ensures.attained)
]
