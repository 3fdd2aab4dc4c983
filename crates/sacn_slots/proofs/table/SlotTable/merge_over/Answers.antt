use Rattle.std.proofs.Common.{◌≡◌, ◌<◌, List, [], None, Some, length, get_or, ap, sym, ◌∙◌, arith}
use Rattle.std.specs.Prelude.{option_map}
use Rattle.std.proofs.lemmas.List.{length-set}
use Rattle.sacn_sources.specs.Rows.{Row}
use Rattle.sacn_slots.specs.SlotLayers.{member_of}
use Rattle.sacn_slots.specs.SlotTables.{SlotSources, member_at}
use Rattle.sacn_slots.proofs.Members.{more_none, more_some}
use Rattle.sacn_slots.proofs.table.SlotTable.merge_over.Goals as goal
use Rattle.sacn_slots.proofs.table.SlotTable.merge_over.Goals.{in-Some, in_default}

abbrev blank : Row
blank = record { source = []; sequence_number = 0; shown = None; moment = 0 }

pub loop-place-preserved : goal.loop-place-preserved
loop-place-preserved c =
    let s : SlotSources = c.args.self.now in
    let rows = s.sources.table.rows in
    let i = c.loop-place.place in
    let many = ap (λ (t : SlotSources). length t.sources.table.rows) c.self.view_is in
    let within : i < length rows = omega (arith, c.loop-place-test.true, c.loop-place.auto.place-end, c.sources-place-end.ensures.count, many) in
    let full = c.loop-place.invariant.room in
    let few : c.loop-place.count < length c.loop-place.layers = omega (arith, within, full, c.loop-place.invariant.few, c.sources-place-end.ensures.few, c.sources-place-end.ensures.count, many) in
    elim c.match-layer_at.branch [
      | in-Some w ↦
          let layer = w.in-Some.layer in
          record {
            room = ap length w.layers-is ∙ length-set c.loop-place.layers c.loop-place.count layer ∙ full;
            few = omega (arith, w.count-is, c.loop-place.invariant.few);
            shown = rw (w.layers-is, w.count-is) (more_some (member_at s.given) rows i blank within c.loop-place.layers c.loop-place.count layer few c.loop-place.invariant.shown (ap (option_map member_of) (sym w.in-Some.is) ∙ c.layer_at.ensures blank));
          }
      | in_default w ↦
          record {
            room = ap length w.layers-is ∙ full;
            few = omega (arith, w.count-is, c.loop-place.invariant.few);
            shown = rw (w.layers-is, w.count-is) (c.loop-place.invariant.shown ∙ more_none (member_at s.given) rows i blank within (ap (option_map member_of) (sym w.in_default.is) ∙ c.layer_at.ensures blank));
          }
    ]
