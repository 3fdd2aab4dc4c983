use Rattle.sacn_tell.specs.declared.options.Form.{Form}
use Rattle.sacn_tell.specs.Tables.{place_told, universe_told}
use Rattle.sacn_tell.proofs.RowTexts.{one_more_number}
use Rattle.sacn_tell.proofs.Telling.{one_row}
use Rattle.sacn_tell.proofs.tables.tell_universes.Goals as goal

pub loop-place-preserved : goal.loop-place-preserved
loop-place-preserved g c =
    let O = g.row.O.Denot in
    let wanted = c.args.options.now.universes.now in
    let moment = c.args.moment in
    let streams = c.args.streams.now in
    let place = c.loop-place.place in
    one_row {O = O} g.O.Write.contents c.args.teller.now c.loop-place.teller c.tell_place.new.teller _ _ (λ (form : Form). place_told form wanted moment streams place)
    c.loop-place.invariant c.in_ok-tell_place.ensures
    (one_more_number (universe_told c.args.teller.now.form wanted moment streams) (λ s. s.universe) _ streams place search)
