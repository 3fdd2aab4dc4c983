use Rattle.std.proofs.Common.{[], ap, sym, ◌∙◌}
use Rattle.sacn_sources.specs.Rows.{taken}
use Rattle.sacn_node.specs.declared.answer.NodeTaken.TheVariants.{FromTable}
use Rattle.sacn_node.specs.declared.answer.NodeChange.{NodeChange}
use Rattle.sacn_node.specs.Changes.{universe_by}
use Rattle.sacn_node.specs.Cores.{Table, Core, table_of, core_reply, core_reply_on, core_after}
use Rattle.sacn_sources.specs.Packets.{packet_of}
use Rattle.sacn_node.proofs.Expiry.{kept_in}
use Rattle.sacn_node.proofs.Places.{table_at, table_absent, core_taken, core_other}
use Rattle.sacn_node.proofs.tables.Tables.take.Goals as goal

abbrev blank : Table
blank = record { universe = 0; rows = [] }

pub returns-in-Ok-clause-taken : goal.returns-in-Ok-clause-taken
returns-in-Ok-clause-taken c =
    let x = packet_of c.args.packet.now in
    let n = c.expire-lost.new.self in
    let found = c.in-Ok.ensures.found in
    let expired = c.expire-lost.ensures.core in
    ap (λ (r : NodeChange). r.taken) c.change_by.ensures
    ∙ ap FromTable (c.take_at.ensures.answer blank ∙ ap (taken x) (kept_in n c.args.self.now c.args.now c.in-Ok.at blank expired found.0))
    ∙ sym (ap (core_reply_on x) (table_at c.universe-universe.result (λ rs. rs) n.tables c.in-Ok.at blank found.0 found.1 found.2))
    ∙ ap (λ (n : Core). core_reply_on x (table_of c.universe-universe.result n.tables)) expired
    ∙ ap (λ u. core_reply u x c.args.now c.args.self.now) c.universe-universe.ensures.universe

pub returns-in-Ok-clause-core : goal.returns-in-Ok-clause-core
returns-in-Ok-clause-core c =
    let x = packet_of c.args.packet.now in
    let found = c.in-Ok.ensures.found in
    c.take_at.ensures.core blank
    ∙ core_taken c.expire-lost.new.self c.args.self.now c.args.now c.expire-lost.ensures.core c.universe-universe.result x c.in-Ok.at blank found.0 found.1 found.2
    ∙ ap (λ u. core_after u x c.args.now c.args.self.now) c.universe-universe.ensures.universe

pub returns-in-Err-clause-taken : goal.returns-in-Err-clause-taken
returns-in-Err-clause-taken c =
    let x = packet_of c.args.packet.now in
    ap (λ (r : NodeChange). r.taken) c.change_by-in-Err.ensures
    ∙ sym (ap (core_reply_on x) (table_absent c.universe-universe.result (λ rs. rs) c.expire-lost.new.self.tables c.in-Err.field-0 c.in-Err.ensures.absent))
    ∙ ap (λ (n : Core). core_reply_on x (table_of c.universe-universe.result n.tables)) c.expire-lost.ensures.core
    ∙ ap (λ u. core_reply u x c.args.now c.args.self.now) c.universe-universe.ensures.universe

pub returns-in-Err-clause-core : goal.returns-in-Err-clause-core
returns-in-Err-clause-core c =
    let x = packet_of c.args.packet.now in
    core_other c.expire-lost.new.self c.args.self.now c.args.now c.expire-lost.ensures.core c.universe-universe.result x c.in-Err.field-0 c.in-Err.ensures.absent
    ∙ ap (λ u. core_after u x c.args.now c.args.self.now) c.universe-universe.ensures.universe

pub returns-in-Ok-clause-universe : goal.returns-in-Ok-clause-universe
returns-in-Ok-clause-universe c =
    ap (λ (r : NodeChange). r.universe) c.change_by.ensures
    ∙ ap (universe_by c.universe-universe.result) (sym (ap (λ (r : NodeChange). r.taken) c.change_by.ensures) ∙ returns-in-Ok-clause-taken c)
    ∙ ap (λ u. universe_by u (core_reply c.args.packet.now.universe (packet_of c.args.packet.now) c.args.now c.args.self.now)) c.universe-universe.ensures.universe

pub returns-in-Err-clause-universe : goal.returns-in-Err-clause-universe
returns-in-Err-clause-universe c =
    ap (λ (r : NodeChange). r.universe) c.change_by-in-Err.ensures
    ∙ ap (universe_by c.universe-universe.result) (sym (ap (λ (r : NodeChange). r.taken) c.change_by-in-Err.ensures) ∙ returns-in-Err-clause-taken c)
    ∙ ap (λ u. universe_by u (core_reply c.args.packet.now.universe (packet_of c.args.packet.now) c.args.now c.args.self.now)) c.universe-universe.ensures.universe
