use Rattle.std.proofs.Common.{refl}
use Rattle.sacn_desk.proofs.standby.Standby.over.Goals as goal

pub returns : goal.returns
returns g c = (refl, c.in_ok-begun.ensures.items_if_clones_equal (λ y same. same))
