use Rattle.std.proofs.Common.{ap, sym, subst, ◌∙◌, arith}
use Rattle.sacn_sources.specs.Rows.{Row, Table, row_live, put_row}
use Rattle.sacn_sources.specs.Places.{IsGap}
use Rattle.sacn_sources.specs.Packets.{packet_of}
use Rattle.sacn_sources.specs.PlainStorage.{plain_rows}
use Rattle.sacn_sources.proofs.PlainEdits.{length_plain, plain_put, put_ordered}
use Rattle.sacn_sources.proofs.Edits.{with_rows}
use Rattle.sacn_sources.proofs.plain.entries.Entries.admit.Goals as goal

pub insert-requires : goal.insert-requires
insert-requires c =
    let es = c.self.inside.items.items in
    let rows = c.args.self.now.rows in
    let view_is = ap (λ (t : Table). t.rows) c.self.view_is in
    let long = length_plain es rows view_is in
    (omega arith, (omega (arith, long, c.requires.gap.within), omega (arith, long, c.requires.room)))

pub invariant_of-self : goal.invariant_of-self
invariant_of-self c =
    let es = c.self.inside.items.items in
    let rows = c.args.self.now.rows in
    let view_is = ap (λ (t : Table). t.rows) c.self.view_is in
    let long = length_plain es rows view_is in
    let source = ap (λ (r : Row). r.source) c.live_entry-entry.ensures in
    let gap = subst (λ s. IsGap (plain_rows es) s c.args.at) (sym source) (subst (λ rs. IsGap rs c.args.packet.now.cid c.args.at) (sym view_is) c.requires.gap) in
    rw c.insert.ensures.items (put_ordered es c.self.invariant c.args.at c.live_entry-entry.result gap (omega (arith, long, c.requires.room)))

pub returns : goal.returns
returns c =
    let es = c.self.inside.items.items in
    let rows = c.args.self.now.rows in
    let view_is = ap (λ (t : Table). t.rows) c.self.view_is in
    let p = packet_of c.args.packet.now in
    let source = ap (λ (r : Row). r.source) c.live_entry-entry.ensures in
    let gap = subst (λ s. IsGap (plain_rows es) s c.args.at) (sym source) (subst (λ rs. IsGap rs c.args.packet.now.cid c.args.at) (sym view_is) c.requires.gap) in
    with_rows _ (plain_rows es) c.self.inside.moment (λ t. put_row (row_live p t.moment) t.rows) c.args.self.now c.self.view_is
    (ap plain_rows c.insert.ensures.items ∙ plain_put es c.self.invariant c.args.at c.live_entry-entry.result gap
    ∙ ap (λ r. put_row r (plain_rows es)) c.live_entry-entry.ensures)
