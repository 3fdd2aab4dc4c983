use Rattle.std.proofs.Common.{ap, ◌∙◌}
use Rattle.std.specs.FinMap as map
use Rattle.sacn_patch.specs.Parts.{high_part}
use Rattle.sacn_patch.proofs.Maps.{put_and_taken, place_total, place_exact}
use Rattle.sacn_patch.proofs.patch.Patch.put_wide.Goals as goal

pub returns-in-Err-clause-unchanged : goal.returns-in-Err-clause-unchanged
returns-in-Err-clause-unchanged c =
    c.take_out.ensures
    ∙ ap (λ m. map.remove m (c.args.universe, c.args.slot)) (c.in-Err.ensures.unchanged ∙ c.in_ok-put.ensures.put ∙ ap (map.insert c.args.self.now (c.args.universe, c.args.slot)) c.high_part.ensures)
    ∙ put_and_taken place_total place_exact c.args.self.now (c.args.universe, c.args.slot) (high_part c.args.channel) c.requires.free
