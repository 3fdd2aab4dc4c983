use Rattle.std.proofs.Common.{None, get_or, set, refl, ap, sym, subst, ◌∙◌}
use Rattle.sacn_sources.specs.declared.entry.Entry.{Entry}
use Rattle.sacn_sources.specs.Rows.{Table, row_ended}
use Rattle.sacn_sources.specs.Places.{IsAt}
use Rattle.sacn_sources.specs.Storage.{rows_in}
use Rattle.sacn_sources.specs.Packets.{packet_of}
use Rattle.sacn_sources.proofs.Searches.{blank}
use Rattle.sacn_sources.proofs.Edits.{within_entries, cid_there, entry_stored, entry_set, with_rows, read_at}
use Rattle.sacn_sources.proofs.store.Store.end.Goals as goal

pub renew-requires : goal.renew-requires
renew-requires c = within_entries c.self.inside.entries.items c.self.inside.frames c.args.self.now.rows (ap (λ (t : Table). t.rows) c.self.view_is) c.args.at c.requires.within

pub invariant_of-self : goal.invariant_of-self
invariant_of-self c =
    let es = c.self.inside.entries.items in
    let fr = c.self.inside.frames in
    let rows = c.args.self.now.rows in
    let view_is = ap (λ (t : Table). t.rows) c.self.view_is in
    let old : Entry = get_or es c.args.at blank in
    rw (c.renew.ensures.entries blank) (entry_stored es fr c.self.invariant rows view_is c.args.at old (read_at es fr rows view_is c.args.at c.requires.within blank) c.args.packet.now.cid c.requires _ refl refl)

pub returns : goal.returns
returns c =
    let es = c.self.inside.entries.items in
    let fr = c.self.inside.frames in
    let rows = c.args.self.now.rows in
    let view_is = ap (λ (t : Table). t.rows) c.self.view_is in
    let is_at = subst (λ rs. IsAt rs c.args.packet.now.cid c.args.at) (sym view_is) c.requires in
    let old : Entry = get_or es c.args.at blank in
    let read = read_at es fr rows view_is c.args.at c.requires.within blank in
    let p = packet_of c.args.packet.now in
    with_rows _ (rows_in fr es) c.self.inside.moment (λ t. set t.rows c.args.at (row_ended p t.moment)) c.args.self.now c.self.view_is
    (ap (rows_in fr) (c.renew.ensures.entries blank) ∙ entry_set es fr c.self.invariant (rows_in fr es) refl c.args.at old read c.args.packet.now.cid is_at _ refl refl
    ∙ ap (λ s. set (rows_in fr es) c.args.at (record { source = s; sequence_number = c.number-sequence_number.result; shown = None; moment = c.self.inside.moment })) (cid_there es fr c.self.invariant (rows_in fr es) refl c.args.at old read c.args.packet.now.cid is_at)
    ∙ ap (λ n. set (rows_in fr es) c.args.at (record { source = c.args.packet.now.cid; sequence_number = n; shown = None; moment = c.self.inside.moment })) c.number-sequence_number.ensures)
