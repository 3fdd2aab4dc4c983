use Rattle.std.proofs.Common.{get_or, set, ap, sym, ◌∙◌}
use Rattle.std.proofs.lemmas.List.{get_or_default}
use Rattle.sacn_sources.specs.declared.plain.entries.PlainEntry.{PlainEntry}
use Rattle.sacn_sources.specs.Rows.{Table, row_observed}
use Rattle.sacn_sources.specs.Packets.{packet_of}
use Rattle.sacn_sources.specs.PlainStorage.{plain_row, plain_rows}
use Rattle.sacn_sources.proofs.PlainEdits.{blank, within_plain, plain_there, plain_set, set_ordered}
use Rattle.sacn_sources.proofs.Edits.{with_rows}
use Rattle.sacn_sources.proofs.plain.entries.Entries.observe.Goals as goal

pub plain_renumber-requires : goal.plain_renumber-requires
plain_renumber-requires c = within_plain c.self.inside.items.items c.args.self.now.rows (ap (λ (t : Table). t.rows) c.self.view_is) c.args.at c.requires.within

pub invariant_of-self : goal.invariant_of-self
invariant_of-self c =
    let es = c.self.inside.items.items in
    let rows = c.args.self.now.rows in
    let view_is = ap (λ (t : Table). t.rows) c.self.view_is in
    let within = within_plain es rows view_is c.args.at c.requires.within in
    rw (c.plain_renumber.ensures blank) (set_ordered es c.self.invariant c.args.at _ within (λ d. ap (λ (e : PlainEntry). e.cid) (get_or_default es c.args.at blank d within)))

pub returns : goal.returns
returns c d =
    let es = c.self.inside.items.items in
    let rows = c.args.self.now.rows in
    let view_is = ap (λ (t : Table). t.rows) c.self.view_is in
    let within = within_plain es rows view_is c.args.at c.requires.within in
    let old : PlainEntry = get_or es c.args.at blank in
    let p = packet_of c.args.packet.now in
    with_rows _ (plain_rows es) c.self.inside.moment (λ t. set t.rows c.args.at (row_observed p (get_or t.rows c.args.at d))) c.args.self.now c.self.view_is
    (ap plain_rows (c.plain_renumber.ensures blank) ∙ plain_set es c.self.invariant c.args.at _ within (λ e. ap (λ (e : PlainEntry). e.cid) (get_or_default es c.args.at blank e within))
    ∙ ap (λ n. set (plain_rows es) c.args.at (row_observed (record p { sequence_number = n }) (plain_row old))) c.number-sequence_number.ensures
    ∙ ap (λ r. set (plain_rows es) c.args.at (row_observed p r)) (sym (plain_there es rows view_is c.args.at c.requires.within old (λ e. get_or_default es c.args.at blank e within) d) ∙ ap (λ rs. get_or rs c.args.at d) (sym view_is)))
