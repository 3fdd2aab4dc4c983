use Rattle.std.proofs.Common.{◌≡◌, ◌<◌, ◌≤◌, List, [], length, get_or, Some, None, ap, sym, ◌∙◌, arith}
use Rattle.std.specs.List.{filter_map}
use Rattle.std.proofs.lemmas.List.{take_all, length-set, length-map}
use Rattle.slab.specs.Slab.{get}
use Rattle.sacn_sources.specs.Merge.{merge}
use Rattle.sacn_sources.specs.declared.slots.merge.Layer.{Layer}
use Rattle.sacn_sources.specs.declared.entry.Entry.{Entry}
use Rattle.sacn_sources.specs.Rows.{Table, slots_of}
use Rattle.sacn_sources.specs.Storage.{row_in}
use Rattle.sacn_sources.proofs.Layers.{shows, shown_is, more_none, more_some, shows_live, shows_ended}
use Rattle.sacn_sources.proofs.store.Store.merge_few.Goals as goal
use Rattle.sacn_sources.proofs.store.Store.merge_few.Goals.{in-Some, in_default}

abbrev blank : Entry
blank = record { cid = []; sequence_number = 0; priority = None; moment = 0; key = 0 }

pub loop-entry-preserved : goal.loop-entry-preserved
loop-entry-preserved c =
    let es = c.self.inside.entries.items in
    let fr = c.self.inside.frames in
    let i = c.loop-entry.entry-index in
    let same = c.as_slice-entry-items.ensures.value in
    let within : i < length es = omega (arith, ap length same, c.loop-entry-test.true) in
    let rows = ap (λ (t : Table). length t.rows) c.self.view_is in
    let long = length-map es (row_in fr) in
    elim c.match-entry.branch [
      | in-Some w ↦
          let layer : Layer = record { priority = w.in-Some.priority; levels = w.index.result } in
          let live : (get_or es i blank).priority ≡ Some w.in-Some.priority = ap (λ (l : List Entry). (get_or l i blank).priority) (sym same) ∙ w.in-Some.is in
          let stored = ap (λ (l : List Entry). get fr (get_or l i blank).key) (sym same) ∙ w.index.ensures in
          let few : c.loop-entry.count < length c.loop-entry.layers = omega (arith, within, rows, long, c.requires, c.loop-entry.invariant.few, c.loop-entry.invariant.room) in
          let longer = length-set c.loop-entry.layers c.loop-entry.count layer in
          record {
            room = ap length w.layers-is ∙ longer ∙ c.loop-entry.invariant.room;
            few = omega (arith, w.count-is, c.loop-entry.invariant.few);
            shown = rw (w.layers-is, w.count-is) (more_some (shows fr) es i blank within c.loop-entry.layers c.loop-entry.count layer few c.loop-entry.invariant.shown (shows_live fr (get_or es i blank) layer.priority layer.levels.now live stored));
          }
      | in_default w ↦
          let ended : (get_or es i blank).priority ≡ None = ap (λ (l : List Entry). (get_or l i blank).priority) (sym same) ∙ w.in_default.is in
          record {
            room = ap length w.layers-is ∙ c.loop-entry.invariant.room;
            few = omega (arith, w.count-is, c.loop-entry.invariant.few);
            shown = rw (w.layers-is, w.count-is) (c.loop-entry.invariant.shown ∙ sym (more_none (shows fr) es i blank within (shows_ended fr (get_or es i blank) ended)));
          }
    ]

pub returns : goal.returns
returns c =
    let es = c.self.inside.entries.items in
    let fr = c.self.inside.frames in
    let past : length es ≤ c.loop-entry.entry-index = omega (arith, ap length c.as_slice-entry-items.ensures.value, c.loop-entry-test.false) in
    c.merge_into.ensures.merged ∙ ap merge (c.loop-entry.invariant.shown ∙ ap (filter_map (shows fr)) (take_all c.loop-entry.entry-index es past) ∙ sym (shown_is fr es)) ∙ ap (λ (t : Table). slots_of t.rows) c.self.view_is
