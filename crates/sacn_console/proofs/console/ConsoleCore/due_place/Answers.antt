use Rattle.std.proofs.Common.{ap, ◌∙◌}
use Rattle.sacn_cues.specs.Playing.{Played, moved}
use Rattle.sacn_console.specs.Lights.{Lights}
use Rattle.sacn_console.proofs.Frames.{settled}
use Rattle.sacn_console.proofs.Dues.{place_found}
use Rattle.sacn_console.proofs.console.ConsoleCore.due_place.Goals as goal

pub returns-clause-found : goal.returns-clause-found
returns-clause-found c =
    place_found _ _ _ _ _ _ c.self.view_is (ap (λ (p : Played). let l : Lights = record { patch = c.self.inside.patch; player = p } in l) (c.at.ensures.at ∙ ap (moved c.self.inside.moment) c.prepare.ensures ∙ settled c.self.inside.player c.self.inside.moment c.self.invariant.core.clock)) c.deref.ensures.value c.first_due.ensures.found

pub first_due-requires-clause-wakes : goal.first_due-requires-clause-wakes
first_due-requires-clause-wakes c = rw (c.at.ensures.at ∙ ap (moved c.self.inside.moment) c.prepare.ensures ∙ settled c.self.inside.player c.self.inside.moment c.self.invariant.core.clock, c.deref.ensures.value) c.self.invariant.wakes_ok
