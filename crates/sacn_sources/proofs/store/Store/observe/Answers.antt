use Rattle.std.proofs.Common.{get_or, set, refl, ap, sym, subst, ◌∙◌}
use Rattle.sacn_sources.specs.declared.entry.Entry.{Entry}
use Rattle.sacn_sources.specs.Rows.{Table, row_observed}
use Rattle.sacn_sources.specs.Places.{IsAt}
use Rattle.sacn_sources.specs.Storage.{rows_in}
use Rattle.sacn_sources.specs.Packets.{packet_of}
use Rattle.sacn_sources.proofs.Searches.{blank}
use Rattle.sacn_sources.proofs.Edits.{within_entries, row_there, entry_stored, entry_set, with_rows, read_at}
use Rattle.sacn_sources.proofs.store.Store.observe.Goals as goal

pub renumber-requires : goal.renumber-requires
renumber-requires c = within_entries c.self.inside.entries.items c.self.inside.frames c.args.self.now.rows (ap (λ (t : Table). t.rows) c.self.view_is) c.args.at c.requires.within

pub invariant_of-self : goal.invariant_of-self
invariant_of-self c =
    let es = c.self.inside.entries.items in
    let fr = c.self.inside.frames in
    let rows = c.args.self.now.rows in
    let view_is = ap (λ (t : Table). t.rows) c.self.view_is in
    let old : Entry = get_or es c.args.at blank in
    rw (c.renumber.ensures blank) (entry_stored es fr c.self.invariant rows view_is c.args.at old (read_at es fr rows view_is c.args.at c.requires.within blank) c.args.packet.now.cid c.requires _ refl refl)

pub returns : goal.returns
returns c d =
    let es = c.self.inside.entries.items in
    let fr = c.self.inside.frames in
    let rows = c.args.self.now.rows in
    let view_is = ap (λ (t : Table). t.rows) c.self.view_is in
    let is_at = subst (λ rs. IsAt rs c.args.packet.now.cid c.args.at) (sym view_is) c.requires in
    let old : Entry = get_or es c.args.at blank in
    let read = read_at es fr rows view_is c.args.at c.requires.within blank in
    let p = packet_of c.args.packet.now in
    with_rows _ (rows_in fr es) c.self.inside.moment (λ t. set t.rows c.args.at (row_observed p (get_or t.rows c.args.at d))) c.args.self.now c.self.view_is
    (ap (rows_in fr) (c.renumber.ensures blank) ∙ entry_set es fr c.self.invariant (rows_in fr es) refl c.args.at old read c.args.packet.now.cid is_at _ refl refl
    ∙ ap (λ (n : _). set (rows_in fr es) c.args.at (row_observed (record p { sequence_number = n }) (Rattle.sacn_sources.specs.Storage.row_in fr old))) c.number-sequence_number.ensures
    ∙ ap (λ r. set (rows_in fr es) c.args.at (row_observed p r)) (sym (row_there es fr c.self.invariant (rows_in fr es) refl c.args.at old read d is_at.within)))
