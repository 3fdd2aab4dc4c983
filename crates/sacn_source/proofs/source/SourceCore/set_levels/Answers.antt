use Rattle.std.proofs.Common.{ap, ◌∙◌}
use Rattle.sacn_source.specs.Rows.{row_showing, slots_of}
use Rattle.sacn_source.specs.Table.{row_at}
use Rattle.sacn_source.specs.Wakes.{row_wake}
use Rattle.sacn_source.proofs.Cores.{ok_given}
use Rattle.sacn_source.proofs.Waking.{looked_stirred, written_at}
use Rattle.sacn_source.proofs.source.SourceCore.set_levels.Goals as goal

pub invariant_of-self : goal.invariant_of-self
invariant_of-self c =
    let there = c.in-Ok.ensures.place.0 in
    let set = c.in-Ok.ensures.place.1 in
    let x = row_showing (slots_of c.args.levels.now) (row_at c.self.inside.rows c.in-Ok.place) in
    let next = c.wake-wake.ensures ∙ ap row_wake (c.at.ensures.row ∙ written_at c.self.inside.rows _ c.in-Ok.place x there set) in
    (ok_given _ _ c.self.invariant.0, looked_stirred _ _ _ c.in-Ok.place c.wake-wake.result _ x c.self.invariant.1 there set next c.stirred-self-inside.ensures)
