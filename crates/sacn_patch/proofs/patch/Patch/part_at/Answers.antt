use Rattle.std.proofs.Common.{sym, ap, ◌∙◌}
use Rattle.std.specs.FinMap as map
use Rattle.sacn_patch.proofs.Maps.{view_get, place_total, place_exact}
use Rattle.sacn_patch.proofs.patch.Patch.part_at.Goals as goal

pub returns : goal.returns
returns c = c.get.ensures.value ∙ sym (view_get place_total place_exact c.self.inside.parts (c.args.universe, c.args.slot)) ∙ ap (λ m. map.get m (c.args.universe, c.args.slot)) c.self.view_is
