use Rattle.std.proofs.Common.{◌≡◌, ℕ, List, [], Some, refl, ap, sym, subst, ◌∙◌, arith}
use Rattle.sacn_sources.specs.Rows.{Row, Table, row_live}
use Rattle.sacn_sources.specs.Storage.{rows_in}
use Rattle.sacn_sources.specs.Packets.{packet_of}
use Rattle.sacn_sources.specs.Rows.{put_row}
use Rattle.sacn_sources.specs.Places.{IsGap}
use Rattle.sacn_sources.proofs.Edits.{length_rows, rows_put, put_stored, with_rows}
use Rattle.sacn_sources.proofs.store.Store.admit.Goals as goal

pub insert_reserved-key-requires : goal.insert_reserved-key-requires
insert_reserved-key-requires c =
    let long = length_rows c.self.inside.entries.items c.self.inside.frames c.args.self.now.rows (ap (λ (t : Table). t.rows) c.self.view_is) in
    omega (arith, long, c.requires.room, c.self.invariant.counted, c.self.invariant.room)

pub insert-requires : goal.insert-requires
insert-requires c =
    let long = length_rows c.self.inside.entries.items c.self.inside.frames c.args.self.now.rows (ap (λ (t : Table). t.rows) c.self.view_is) in
    (omega arith, (omega (arith, long, c.requires.gap.within), omega (arith, long, c.requires.room)))

pub invariant_of-self : goal.invariant_of-self
invariant_of-self c =
    let es = c.self.inside.entries.items in
    let fr = c.self.inside.frames in
    let rows = c.args.self.now.rows in
    let view_is = ap (λ (t : Table). t.rows) c.self.view_is in
    let long = length_rows es fr rows view_is in
    let slab = c.insert_reserved-key.ensures in
    let gap = subst (λ s. IsGap (rows_in fr es) s c.args.at) (sym c.cid.ensures) (subst (λ rs. IsGap rs c.args.packet.now.cid c.args.at) (sym view_is) c.requires.gap) in
    rw c.insert.ensures.items (put_stored es fr c.self.invariant c.insert_reserved-key.new.self c.args.at _ c.of.result gap slab.was_vacant slab.updates (omega (arith, long, c.requires.room)) slab.len slab.capacity)

pub returns : goal.returns
returns c =
    let es = c.self.inside.entries.items in
    let fr = c.self.inside.frames in
    let rows = c.args.self.now.rows in
    let view_is = ap (λ (t : Table). t.rows) c.self.view_is in
    let slab = c.insert_reserved-key.ensures in
    let p = packet_of c.args.packet.now in
    let gap = subst (λ s. IsGap (rows_in fr es) s c.args.at) (sym c.cid.ensures) (subst (λ rs. IsGap rs c.args.packet.now.cid c.args.at) (sym view_is) c.requires.gap) in
    let row_with : List ℕ → ℕ → ℕ → List ℕ → Row = λ s n q xs. record { source = s; sequence_number = n; shown = Some (record { priority = q; levels = xs }); moment = c.self.inside.moment } in
    let same : row_with c.cid.result c.number.result c.priority.result c.of.result ≡ row_with p.source p.sequence_number p.priority p.levels =
    rw (c.cid.ensures, c.number.ensures, c.priority.ensures.priority, c.of.ensures, c.slots.ensures.slots) refl in
    with_rows _ (rows_in fr es) c.self.inside.moment (λ t. put_row (row_live p t.moment) t.rows) c.args.self.now c.self.view_is
    (ap (rows_in c.insert_reserved-key.new.self) c.insert.ensures.items
    ∙ rows_put es fr c.self.invariant c.insert_reserved-key.new.self c.args.at _ c.of.result gap slab.was_vacant slab.updates
    ∙ ap (λ r. put_row r (rows_in fr es)) (ap (λ stored. row_with c.cid.result c.number.result c.priority.result (Rattle.std.specs.Prelude.unwrap_or stored [])) slab.updates.changed ∙ same))
