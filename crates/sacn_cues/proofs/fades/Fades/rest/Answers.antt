use Rattle.std.proofs.Common.{subst}
use Rattle.sacn_cues.specs.Levels.{Running, StaysLit}
use Rattle.sacn_cues.proofs.Stillness.{stays_lit}
use Rattle.sacn_cues.proofs.fades.Fades.rest.Goals as goal

pub returns-clause-stays : goal.returns-clause-stays
returns-clause-stays c before = subst (λ (r : Running). StaysLit c.self.inside.rest r.fades) c.self.view_is (stays_lit c.self.inside.rest c.self.inside.fades.items c.self.invariant.2 before)
