use Rattle.std.proofs.Common.{rules, ◌≡◌, List, ℕ, length, replicate, ap, ◌∙◌}
use Rattle.std.specs.FinMap.{from_entries}
use Rattle.sacn_patch.specs.Patch.{Patched, universe_frame}
use Rattle.sacn_patch.specs.Flat.{Row}
use Rattle.sacn_patch.proofs.Fills.{written, of_universe}
use Rattle.sacn_patch.proofs.Rows.{skip_below, none_above, none_after, row_written}
use Rattle.sacn_patch.proofs.flat.FlatPatch.fill.Goals as goal

pub loop-place-init : goal.loop-place-init
loop-place-init g c =
    let level = g.L.LevelOf.level c.args.levels.now in
    let long : length c.args.slots.now ≡ 512 = search rules in
    let zeros : c.fill.new.self ≡ replicate 512 0 = c.fill.ensures.after (λ y same. same) ∙ ap {B = List ℕ} (λ n. replicate n 0) long in
    record {
      told = ap (λ (es : Row). written level es c.fill.new.self) (skip_below c.args.universe c.start_of-place.result c.as_slice-row.result.now c.start_of-place.ensures.below) ∙ ap (written level (of_universe c.args.universe c.as_slice-row.result.now)) zeros;
    }

pub returns-then-universe-at : goal.returns-then-universe-at
returns-then-universe-at g c =
    let level = g.L.LevelOf.level c.args.levels.now in
    row_written level c.args.universe c.as_slice-row.result.now _ c.loop-place.slots (rw c.as_slice-row.ensures.value c.self.invariant.0) c.loop-place.invariant.told (none_above c.args.universe c.loop-place.place c.as_slice-row.result.now _ (rw c.as_slice-row.ensures.value c.self.invariant.0) c.loop-place-test.true c.if-universe-at.true)
    ∙ ap (λ (m : Patched). universe_frame level m c.args.universe) (ap (λ (row : Row). let m : Patched = from_entries row in m) c.as_slice-row.ensures.value ∙ c.self.view_is)

pub returns : goal.returns
returns g c =
    let level = g.L.LevelOf.level c.args.levels.now in
    row_written level c.args.universe c.as_slice-row.result.now _ c.loop-place.slots (rw c.as_slice-row.ensures.value c.self.invariant.0) c.loop-place.invariant.told (none_after c.args.universe c.loop-place.place c.as_slice-row.result.now c.loop-place-test.false)
    ∙ ap (λ (m : Patched). universe_frame level m c.args.universe) (ap (λ (row : Row). let m : Patched = from_entries row in m) c.as_slice-row.ensures.value ∙ c.self.view_is)
