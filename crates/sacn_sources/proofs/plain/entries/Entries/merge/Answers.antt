use Rattle.std.proofs.Common.{◌≡◌, ◌<◌, ◌≤◌, length, get_or, ap, sym, ◌∙◌, arith}
use Rattle.std.specs.List.{filter_map}
use Rattle.std.proofs.lemmas.List.{take_all, length-set}
use Rattle.sacn_sources.specs.Merge.{merge}
use Rattle.sacn_sources.specs.Rows.{Table, slots_of}
use Rattle.sacn_sources.proofs.PlainLayers.{plain_shows, plain_shown, plain_none, plain_live, plain_ended}
use Rattle.sacn_sources.proofs.Layers.{more_none, more_some}
use Rattle.sacn_sources.proofs.plain.entries.Entries.merge.Goals as goal
use Rattle.sacn_sources.proofs.plain.entries.Entries.merge.Goals.{in-Some-priority, in_default-priority}

pub returns-in_default : goal.returns-in_default
returns-in_default c =
    let es = c.self.inside.items.items in
    let none : length es ≤ 0 = omega (arith, ap length c.as_slice-entries.ensures.value, c.in_default.ensures.item) in
    c.merge_into.ensures.merged ∙ ap merge (sym (plain_shown es ∙ plain_none es none)) ∙ ap (λ (t : Table). slots_of t.rows) c.self.view_is

pub loop-entry-preserved : goal.loop-entry-preserved
loop-entry-preserved c =
    let es = c.as_slice-entries.result.now in
    let i = c.loop-entry.entry-index in
    let e = c.entry-item.result in
    let within : i < length es = c.loop-entry-test.true in
    let limit = c.self.invariant.within in
    let same = c.as_slice-entries.ensures.value in
    let there : get_or es i e ≡ e = sym c.entry-item.is in
    elim c.match-entry.branch [
      | in-Some-priority w ↦
          let few : c.loop-entry.count < length c.loop-entry.layers = omega (arith, c.loop-entry.invariant.few, c.loop-entry.invariant.room, ap length same) in
          record {
            room = ap length w.layers-is ∙ length-set c.loop-entry.layers c.loop-entry.count _ ∙ c.loop-entry.invariant.room;
            few = omega (arith, w.count-is, c.loop-entry.invariant.few);
            shown = rw (w.layers-is, w.count-is) (more_some plain_shows es i e within c.loop-entry.layers c.loop-entry.count _ few c.loop-entry.invariant.shown (ap plain_shows there ∙ plain_live e w.in-Some-priority.priority w.in-Some-priority.is));
          }
      | in_default-priority w ↦
          record {
            room = ap length w.layers-is ∙ c.loop-entry.invariant.room;
            few = omega (arith, w.count-is, c.loop-entry.invariant.few);
            shown = rw (w.layers-is, w.count-is) (c.loop-entry.invariant.shown ∙ sym (more_none plain_shows es i e within (ap plain_shows there ∙ plain_ended e w.in_default-priority.is)));
          }
    ]

pub returns : goal.returns
returns c =
    let es = c.as_slice-entries.result.now in
    let same = c.as_slice-entries.ensures.value in
    c.merge_into-2.ensures.merged ∙ ap merge (c.loop-entry.invariant.shown ∙ ap (filter_map plain_shows) (take_all c.loop-entry.entry-index es c.loop-entry-test.false) ∙ ap (filter_map plain_shows) same ∙ sym (plain_shown c.self.inside.items.items)) ∙ ap (λ (t : Table). slots_of t.rows) c.self.view_is
