use Rattle.std.proofs.Common.{rules, ◌≡◌, ◌<◌, ◌≤◌, ◌+◌, List, ℕ, length, get_or, replicate, drop, ap, ◌∙◌, arith}
use Rattle.std.specs.FinMap.{from_entries}
use Rattle.sacn_patch.specs.Patch.{Patched, universe_frame}
use Rattle.sacn_patch.specs.Flat.{Row, IsMark}
use Rattle.sacn_patch.proofs.Fills.{written, of_universe}
use Rattle.sacn_patch.proofs.Rows.{skip_below, row_written}
use Rattle.sacn_patch.proofs.Marks.{no_entry, between, none_from, from_later}
use Rattle.sacn_patch.proofs.Runs.{no_mark, fewer, run_written, mark_there}
use Rattle.sacn_patch.proofs.flat.FlatPatch.fill_octets.Goals as goal

pub loop-place-init : goal.loop-place-init
loop-place-init c =
    let long : length c.args.slots.now ≡ 512 = search rules in
    let zeros : c.fill.new.self ≡ replicate 512 0 = c.fill.ensures.after (λ y same. same) ∙ ap {B = List ℕ} (λ n. replicate n 0) long in
    record {
      least = omega arith;
      told = λ level are. ap (λ (es : Row). written level es c.fill.new.self) (skip_below c.args.universe c.start_in-start.result c.as_slice-row.result.now c.start_in-start.ensures.0) ∙ ap (written level (of_universe c.args.universe c.as_slice-row.result.now)) zeros;
    }

pub loop-place-preserved : goal.loop-place-preserved
loop-place-preserved c =
    let row = c.as_slice-row.result.now in
    let place = c.loop-place.place in
    let count = c.write_some-place.result in
    let mark = get_or c.as_slice-marks.result.now place no_mark in
    let within : place < length row = omega (arith, c.loop-place-test.true, c.start_in-end.ensures.2) in
    let is : IsMark row place mark = mark_there c.self.inside.row.items row c.self.inside.marks.items c.as_slice-marks.result.now place no_mark c.self.invariant.1 c.as_slice-row.ensures.value c.as_slice-marks.ensures.value within in
    let in_step = fewer row mark.step mark.run count place mark.slot mark.octet c.write_some-place.ensures.run is.1 in
    let same = λ (k : ℕ) (le : place ≤ k) (lt : k < place + count). between c.args.universe c.start_in-start.result c.start_in-end.result k row no_entry c.start_in-start.ensures.1 c.start_in-end.ensures.0 c.start_in-end.ensures.2 (omega (arith, c.loop-place.invariant.least, le)) (omega (arith, lt, c.write_some-place.ensures.most, c.loop-place-test.true)) in
    record {
      least = omega (arith, c.loop-place.invariant.least);
      told = λ level are.
          ap (λ (slots : List ℕ). written level (of_universe c.args.universe (drop (place + count) row)) slots) c.write_some-place.ensures.written
          ∙ run_written level c.args.octets.now c.args.universe row are mark.step count place mark.slot mark.octet c.loop-place.slots no_entry in_step same
          ∙ c.loop-place.invariant.told level are;
    }

pub returns : goal.returns
returns c = λ level are.
    row_written level c.args.universe c.as_slice-row.result.now _ c.loop-place.slots (rw c.as_slice-row.ensures.value c.self.invariant.0) (c.loop-place.invariant.told level are)
    (none_from c.args.universe c.loop-place.place c.as_slice-row.result.now (from_later (c.args.universe + 1) c.start_in-end.result c.loop-place.place c.as_slice-row.result.now c.start_in-end.ensures.1 c.loop-place-test.false))
    ∙ ap (λ (m : Patched). universe_frame level m c.args.universe) (ap (λ (row : Row). let m : Patched = from_entries row in m) c.as_slice-row.ensures.value ∙ c.self.view_is)
