use Rattle.std.proofs.Common.{◌≡◌, ◌<◌, ◌+◌, ◌-◌, ℕ, [], not, None, length, drop, get_or, refl, ap, sym, ◌∙◌, arith}
use Rattle.std.proofs.lemmas.List.{drop_all}
use Rattle.sacn_sources.specs.Rows.{Row, Table, row_renewed}
use Rattle.sacn_sources.specs.LatestMerge.{loses_live}
use Rattle.sacn_sources.proofs.Losses.{loses_dropped, loses_kept}
use Rattle.sacn_sources.proofs.Sweeps.{swept, swept_none_yet, sweep_drops, sweep_keeps}
use Rattle.sacn_sources.proofs.store.Store.sweep.Goals as goal

abbrev blank : Row
blank = record { source = []; sequence_number = 0; shown = None; moment = 0 }

pub loop-at-init : goal.loop-at-init
loop-at-init c =
    let t = c.args.self.now.moment in
    let rows = c.args.self.now.rows in
    record {
      within = omega (arith, c.count-at.ensures);
      moment = refl;
      swept = sym (ap (swept (row_renewed t) rows) c.count-at.ensures ∙ swept_none_yet (row_renewed t) rows);
      live = sym (ap (loses_live t) (drop_all c.count-at.result rows (omega (arith, c.count-at.ensures))));
    }

next : (n : ℕ) → 0 < n → n ≡ n - 1 + 1
next n pos = omega arith

pub loop-at-preserved-then-is_lost : goal.loop-at-preserved-then-is_lost
loop-at-preserved-then-is_lost c =
    let t = c.args.self.now.moment in
    let p = row_renewed t in
    let rows = c.args.self.now.rows in
    let at = c.loop-at.at in
    let within : at - 1 < length rows = omega (arith, c.loop-at.invariant.within, c.loop-at-test.true) in
    let again = next at c.loop-at-test.true in
    let is = c.loop-at.invariant.swept ∙ ap (swept p rows) again in
    let lost = c.if-is_lost.ensures blank ∙ ap (λ m. not (row_renewed m (get_or c.loop-at.self.rows (at - 1) blank))) c.loop-at.invariant.moment in
    record {
      within = omega (arith, c.loop-at.invariant.within);
      moment = ap (λ (t : Table). t.moment) c.drop_at-live.ensures.table ∙ c.loop-at.invariant.moment;
      swept = ap (λ (t : Table). t.rows) c.drop_at-live.ensures.table ∙ sweep_drops p rows (at - 1) c.loop-at.self.rows within is blank lost;
      live = loses_dropped t rows c.loop-at.self.rows (at - 1) within is blank c.loop-at.live (c.loop-at.invariant.live ∙ ap (λ i. loses_live t (drop i rows)) again) c.drop_at-live.result lost (c.drop_at-live.ensures.live blank);
    }

pub loop-at-preserved : goal.loop-at-preserved
loop-at-preserved c =
    let t = c.args.self.now.moment in
    let p = row_renewed t in
    let rows = c.args.self.now.rows in
    let at = c.loop-at.at in
    let within : at - 1 < length rows = omega (arith, c.loop-at.invariant.within, c.loop-at-test.true) in
    let again = next at c.loop-at-test.true in
    let is = c.loop-at.invariant.swept ∙ ap (swept p rows) again in
    let stays = c.if-is_lost.ensures blank ∙ ap (λ m. not (row_renewed m (get_or c.loop-at.self.rows (at - 1) blank))) c.loop-at.invariant.moment in
    record {
      within = omega (arith, c.loop-at.invariant.within);
      moment = c.loop-at.invariant.moment;
      swept = sweep_keeps p rows (at - 1) c.loop-at.self.rows within is blank stays;
      live = loses_kept t rows c.loop-at.self.rows (at - 1) within is blank c.loop-at.live (c.loop-at.invariant.live ∙ ap (λ i. loses_live t (drop i rows)) again) stays;
    }
