use Rattle.std.proofs.Common.{refl, ap, sym, ◌∙◌}
use Rattle.sacn_sources.specs.Rows.{Table}
use Rattle.sacn_sources.specs.Packets.{packet_of}
use Rattle.sacn_sources.proofs.Taking.{ignored_ending, ignored_preview, ignored_other, exceeded, admitted, few_left}
use Rattle.sacn_sources.specs.Rows.{rows_after}
use Rattle.sacn_sources.proofs.store.Store.take_unknown.Goals as goal

pub returns-in-Termination-clause-answer : goal.returns-in-Termination-clause-answer
returns-in-Termination-clause-answer c =
    let p = packet_of c.args.packet.now in
    let rows = c.args.self.now.rows in
    let t = c.args.self.now.moment in
    sym (ignored_ending p rows c.args.at c.requires c.in-Termination.ensures)

pub returns-in-Termination-clause-table : goal.returns-in-Termination-clause-table
returns-in-Termination-clause-table c =
    let p = packet_of c.args.packet.now in
    let rows = c.args.self.now.rows in
    let t = c.args.self.now.moment in
    sym (ap (λ a. let table : Table = record { rows = rows_after a p t rows; moment = t } in table) (ignored_ending p rows c.args.at c.requires c.in-Termination.ensures))

pub returns-in-Other-clause-answer : goal.returns-in-Other-clause-answer
returns-in-Other-clause-answer c =
    let p = packet_of c.args.packet.now in
    let rows = c.args.self.now.rows in
    let t = c.args.self.now.moment in
    sym (ignored_other p rows c.args.at c.requires c.in-Other.ensures)

pub returns-in-Other-clause-table : goal.returns-in-Other-clause-table
returns-in-Other-clause-table c =
    let p = packet_of c.args.packet.now in
    let rows = c.args.self.now.rows in
    let t = c.args.self.now.moment in
    sym (ap (λ a. let table : Table = record { rows = rows_after a p t rows; moment = t } in table) (ignored_other p rows c.args.at c.requires c.in-Other.ensures))

pub returns-in-Preview-clause-answer : goal.returns-in-Preview-clause-answer
returns-in-Preview-clause-answer c =
    let p = packet_of c.args.packet.now in
    let rows = c.args.self.now.rows in
    let t = c.args.self.now.moment in
    sym (ignored_preview p rows c.args.at c.requires c.in-Preview.ensures)

pub returns-in-Preview-clause-table : goal.returns-in-Preview-clause-table
returns-in-Preview-clause-table c =
    let p = packet_of c.args.packet.now in
    let rows = c.args.self.now.rows in
    let t = c.args.self.now.moment in
    sym (ap (λ a. let table : Table = record { rows = rows_after a p t rows; moment = t } in table) (ignored_preview p rows c.args.at c.requires c.in-Preview.ensures))

pub returns-then-is_full-clause-answer : goal.returns-then-is_full-clause-answer
returns-then-is_full-clause-answer c =
    let p = packet_of c.args.packet.now in
    let rows = c.args.self.now.rows in
    let t = c.args.self.now.moment in
    sym (exceeded p rows c.args.at c.requires c.in-Live.ensures (c.if-is_full.ensures.0 refl))

pub returns-then-is_full-clause-table : goal.returns-then-is_full-clause-table
returns-then-is_full-clause-table c =
    let p = packet_of c.args.packet.now in
    let rows = c.args.self.now.rows in
    let t = c.args.self.now.moment in
    sym (ap (λ a. let table : Table = record { rows = rows_after a p t rows; moment = t } in table) (exceeded p rows c.args.at c.requires c.in-Live.ensures (c.if-is_full.ensures.0 refl)))

pub returns-else-is_full-clause-answer : goal.returns-else-is_full-clause-answer
returns-else-is_full-clause-answer c =
    let p = packet_of c.args.packet.now in
    let rows = c.args.self.now.rows in
    let t = c.args.self.now.moment in
    sym (admitted p rows c.args.at c.requires c.in-Live.ensures (few_left _ c.if-is_full.ensures.1))

pub returns-else-is_full-clause-table : goal.returns-else-is_full-clause-table
returns-else-is_full-clause-table c =
    let p = packet_of c.args.packet.now in
    let rows = c.args.self.now.rows in
    let t = c.args.self.now.moment in
    c.admit.ensures ∙ sym (ap (λ a. let table : Table = record { rows = rows_after a p t rows; moment = t } in table) (admitted p rows c.args.at c.requires c.in-Live.ensures (few_left _ c.if-is_full.ensures.1)))
