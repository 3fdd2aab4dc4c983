use Rattle.std.proofs.Common.{ap, sym, ◌∙◌}
use Rattle.sacn_sources.specs.Rows.{Table, layers, Live, Preview, Termination, Other}
use Rattle.sacn_sources.specs.Packets.{packet_of}
use Rattle.sacn_sources.proofs.Taking.{blank, taken_late, taken_in_time, row_late, row_shown, row_dark, row_seen, seen_shows}
use Rattle.sacn_sources.proofs.store.Store.take_known.Goals as goal

pub returns-then-not-in_sequence_at-clause-answer : goal.returns-then-not-in_sequence_at-clause-answer
returns-then-not-in_sequence_at-clause-answer c =
    let p = packet_of c.args.packet.now in
    let rows = c.args.self.now.rows in
    let t = c.args.self.now.moment in
    let at = c.args.at in
    let is_at = c.requires in
    let said = c.if-not-in_sequence_at.ensures blank in
    sym (taken_late p rows at is_at said)

pub returns-then-not-in_sequence_at-clause-table : goal.returns-then-not-in_sequence_at-clause-table
returns-then-not-in_sequence_at-clause-table c =
    let p = packet_of c.args.packet.now in
    let rows = c.args.self.now.rows in
    let t = c.args.self.now.moment in
    let at = c.args.at in
    let is_at = c.requires in
    let said = c.if-not-in_sequence_at.ensures blank in
    sym (ap (λ rs. let table : Table = record { rows = rs; moment = t } in table) (row_late p rows at is_at t said))

pub returns-in-Live-clause-answer : goal.returns-in-Live-clause-answer
returns-in-Live-clause-answer c =
    let p = packet_of c.args.packet.now in
    let rows = c.args.self.now.rows in
    let t = c.args.self.now.moment in
    let at = c.args.at in
    let is_at = c.requires in
    let said = c.if-not-in_sequence_at.ensures blank in
    sym (taken_in_time p rows at is_at Live said c.in-Live.ensures)

pub returns-in-Live-clause-table : goal.returns-in-Live-clause-table
returns-in-Live-clause-table c =
    let p = packet_of c.args.packet.now in
    let rows = c.args.self.now.rows in
    let t = c.args.self.now.moment in
    let at = c.args.at in
    let is_at = c.requires in
    let said = c.if-not-in_sequence_at.ensures blank in
    c.show.ensures ∙ sym (ap (λ rs. let table : Table = record { rows = rs; moment = t } in table) (row_shown p rows at is_at t said c.in-Live.ensures))

pub returns-in-Termination-clause-answer : goal.returns-in-Termination-clause-answer
returns-in-Termination-clause-answer c =
    let p = packet_of c.args.packet.now in
    let rows = c.args.self.now.rows in
    let t = c.args.self.now.moment in
    let at = c.args.at in
    let is_at = c.requires in
    let said = c.if-not-in_sequence_at.ensures blank in
    sym (taken_in_time p rows at is_at Termination said c.in-Termination.ensures)

pub returns-in-Termination-clause-table : goal.returns-in-Termination-clause-table
returns-in-Termination-clause-table c =
    let p = packet_of c.args.packet.now in
    let rows = c.args.self.now.rows in
    let t = c.args.self.now.moment in
    let at = c.args.at in
    let is_at = c.requires in
    let said = c.if-not-in_sequence_at.ensures blank in
    c.end.ensures ∙ sym (ap (λ rs. let table : Table = record { rows = rs; moment = t } in table) (row_dark p rows at is_at t said c.in-Termination.ensures))

pub returns-in-Preview-clause-answer : goal.returns-in-Preview-clause-answer
returns-in-Preview-clause-answer c =
    let p = packet_of c.args.packet.now in
    let rows = c.args.self.now.rows in
    let t = c.args.self.now.moment in
    let at = c.args.at in
    let is_at = c.requires in
    let said = c.if-not-in_sequence_at.ensures blank in
    sym (taken_in_time p rows at is_at Preview said c.in-Preview.ensures)

pub returns-in-Preview-clause-table : goal.returns-in-Preview-clause-table
returns-in-Preview-clause-table c =
    let p = packet_of c.args.packet.now in
    let rows = c.args.self.now.rows in
    let t = c.args.self.now.moment in
    let at = c.args.at in
    let is_at = c.requires in
    let said = c.if-not-in_sequence_at.ensures blank in
    c.observe.ensures blank ∙ sym (ap (λ rs. let table : Table = record { rows = rs; moment = t } in table) (row_seen p rows at is_at t (taken_in_time p rows at is_at Preview said c.in-Preview.ensures)))

pub returns-in-Preview-clause-quiet : goal.returns-in-Preview-clause-quiet
returns-in-Preview-clause-quiet c _ =
    let p = packet_of c.args.packet.now in
    let rows = c.args.self.now.rows in
    let t = c.args.self.now.moment in
    let at = c.args.at in
    let is_at = c.requires in
    let said = c.if-not-in_sequence_at.ensures blank in
    ap (λ (t : Table). layers t.rows) (c.observe.ensures blank) ∙ seen_shows p rows at is_at

pub returns-in-Other-clause-answer : goal.returns-in-Other-clause-answer
returns-in-Other-clause-answer c =
    let p = packet_of c.args.packet.now in
    let rows = c.args.self.now.rows in
    let t = c.args.self.now.moment in
    let at = c.args.at in
    let is_at = c.requires in
    let said = c.if-not-in_sequence_at.ensures blank in
    sym (taken_in_time p rows at is_at Other said c.in-Other.ensures)

pub returns-in-Other-clause-table : goal.returns-in-Other-clause-table
returns-in-Other-clause-table c =
    let p = packet_of c.args.packet.now in
    let rows = c.args.self.now.rows in
    let t = c.args.self.now.moment in
    let at = c.args.at in
    let is_at = c.requires in
    let said = c.if-not-in_sequence_at.ensures blank in
    c.observe-in-Other.ensures blank ∙ sym (ap (λ rs. let table : Table = record { rows = rs; moment = t } in table) (row_seen p rows at is_at t (taken_in_time p rows at is_at Other said c.in-Other.ensures)))

pub returns-in-Other-clause-quiet : goal.returns-in-Other-clause-quiet
returns-in-Other-clause-quiet c _ =
    let p = packet_of c.args.packet.now in
    let rows = c.args.self.now.rows in
    let t = c.args.self.now.moment in
    let at = c.args.at in
    let is_at = c.requires in
    let said = c.if-not-in_sequence_at.ensures blank in
    ap (λ (t : Table). layers t.rows) (c.observe-in-Other.ensures blank) ∙ seen_shows p rows at is_at
