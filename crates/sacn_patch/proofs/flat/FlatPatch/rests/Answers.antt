use Rattle.std.proofs.Common.{ap, ◌∙◌}
use Rattle.std.specs.FinMap.{from_entries}
use Rattle.sacn_patch.specs.Patch.{Patched}
use Rattle.sacn_patch.specs.Flat.{Row}
use Rattle.sacn_patch.proofs.Rows.{none_above, none_after}
use Rattle.sacn_patch.proofs.ShownChannels.{each_below, each_shown, none_each}
use Rattle.sacn_patch.proofs.flat.FlatPatch.rests.Goals as goal

pub loop-place-init : goal.loop-place-init
loop-place-init g c each = each_below (g.R.RestOf.stays c.args.levels.now) c.args.universe c.start_of-place.result c.as_slice-row.result.now c.start_of-place.ensures.below each

pub returns-then-at-universe : goal.returns-then-at-universe
returns-then-at-universe g c told =
    each_shown (g.R.RestOf.stays c.args.levels.now) c.as_slice-row.result.now c.args.self.now c.args.universe (rw c.as_slice-row.ensures.value c.self.invariant.0)
    (ap (λ (row : Row). let m : Patched = from_entries row in m) c.as_slice-row.ensures.value ∙ c.self.view_is)
    (c.loop-place.invariant (none_each (g.R.RestOf.stays c.args.levels.now) _ (none_above c.args.universe c.loop-place.place c.as_slice-row.result.now _ (rw c.as_slice-row.ensures.value c.self.invariant.0) c.loop-place-test.true c.if-at-universe.true)))

pub returns : goal.returns
returns g c told =
    each_shown (g.R.RestOf.stays c.args.levels.now) c.as_slice-row.result.now c.args.self.now c.args.universe (rw c.as_slice-row.ensures.value c.self.invariant.0)
    (ap (λ (row : Row). let m : Patched = from_entries row in m) c.as_slice-row.ensures.value ∙ c.self.view_is)
    (c.loop-place.invariant (none_each (g.R.RestOf.stays c.args.levels.now) _ (none_after c.args.universe c.loop-place.place c.as_slice-row.result.now c.loop-place-test.false)))
