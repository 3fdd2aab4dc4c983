use Rattle.std.proofs.Common.{◌≡◌, ℕ, true, false, max, ap, sym, ◌∙◌}
use Rattle.std.specs.List.{list_any}
use Rattle.std.proofs.lemmas.List.{take_all}
use Rattle.std.proofs.lemmas.List.Folds.{list_any_at}
use Rattle.sacn_sources.specs.Rows.{Table}
use Rattle.sacn_sources.specs.LatestMerge.{loses_live}
use Rattle.sacn_sources.proofs.PlainLayers.{lost_entry, loses_is, entry_is_lost}
use Rattle.sacn_sources.proofs.plain.entries.Entries.loses_live.Goals as goal

pub returns-then-is_some : goal.returns-then-is_some
returns-then-is_some c =
    let es = c.self.inside.items.items in
    let m = c.max-moment.result in
    let read = c.as_slice-entry-items.result.now in
    let i = c.loop-entry.entry-index in
    let e = c.entry-item.result in
    let lost = entry_is_lost m c.saturating_sub.result c.is_some.result e c.saturating_sub.ensures c.if-saturating_sub-ge-NETWORK_DATA_LOSS.true c.is_some.ensures c.if-is_some.true in
    let any : list_any (lost_entry m) es ≡ true = ap (list_any (lost_entry m)) (sym c.as_slice-entry-items.ensures.value) ∙ list_any_at (lost_entry m) read i e c.loop-entry-test.true (ap (lost_entry m) (sym c.entry-item.is) ∙ lost) in
    sym (ap (λ (t : Table). loses_live (max t.moment c.args.now) t.rows) (sym c.self.view_is)
    ∙ loses_is (max c.self.inside.moment c.args.now) es
    ∙ ap (λ (t : ℕ). list_any (lost_entry t) es) (sym c.max-moment.ensures) ∙ any)

pub returns : goal.returns
returns c =
    let es = c.self.inside.items.items in
    let m = c.max-moment.result in
    let same = c.as_slice-entry-items.ensures.value in
    let all = take_all c.loop-entry.entry-index c.as_slice-entry-items.result.now c.loop-entry-test.false in
    let none : list_any (lost_entry m) es ≡ false = ap (list_any (lost_entry m)) (sym same ∙ sym all) ∙ c.loop-entry.invariant in
    sym (ap (λ (t : Table). loses_live (max t.moment c.args.now) t.rows) (sym c.self.view_is)
    ∙ loses_is (max c.self.inside.moment c.args.now) es
    ∙ ap (λ (t : ℕ). list_any (lost_entry t) es) (sym c.max-moment.ensures) ∙ none)
