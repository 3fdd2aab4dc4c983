use Rattle.std.proofs.Common.{set, refl, ap, ◌∙◌}
use Rattle.sacn_sources.specs.Rows.{Table, row_ended}
use Rattle.sacn_sources.specs.Packets.{packet_of}
use Rattle.sacn_sources.specs.PlainStorage.{plain_rows}
use Rattle.sacn_sources.proofs.PlainEdits.{within_plain, plain_set, set_ordered, cid_there}
use Rattle.sacn_sources.proofs.Edits.{with_rows}
use Rattle.sacn_sources.proofs.plain.entries.Entries.end.Goals as goal

pub plain_put-requires : goal.plain_put-requires
plain_put-requires c = within_plain c.self.inside.items.items c.args.self.now.rows (ap (λ (t : Table). t.rows) c.self.view_is) c.args.at c.requires.within

pub invariant_of-self : goal.invariant_of-self
invariant_of-self c =
    let es = c.self.inside.items.items in
    let rows = c.args.self.now.rows in
    let view_is = ap (λ (t : Table). t.rows) c.self.view_is in
    let within = within_plain es rows view_is c.args.at c.requires.within in
    rw c.plain_put.ensures (set_ordered es c.self.invariant c.args.at _ within (cid_there es rows view_is c.args.packet.now.cid c.args.at c.requires _ (c.cid.ensures)))

pub returns : goal.returns
returns c =
    let es = c.self.inside.items.items in
    let rows = c.args.self.now.rows in
    let view_is = ap (λ (t : Table). t.rows) c.self.view_is in
    let within = within_plain es rows view_is c.args.at c.requires.within in
    let p = packet_of c.args.packet.now in
    with_rows _ (plain_rows es) c.self.inside.moment (λ t. set t.rows c.args.at (row_ended p t.moment)) c.args.self.now c.self.view_is
    (ap plain_rows c.plain_put.ensures ∙ plain_set es c.self.invariant c.args.at _ within (cid_there es rows view_is c.args.packet.now.cid c.args.at c.requires _ (c.cid.ensures))
    ∙ ap (set (plain_rows es) c.args.at) (rw (c.cid.ensures, c.number.ensures) refl))
