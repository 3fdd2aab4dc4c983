use Rattle.std.proofs.Common.{ap, subst, drop, ◌++◌, ◌∙◌}
use Rattle.sacn_console.specs.Core.{packet_text}
use Rattle.sacn_source.specs.declared.source_universe.SourceUniverse.{SourceUniverse}
use Rattle.sacn_source.specs.Source.{Source, packet_of}
use Rattle.sacn_source.specs.Table.{RowOk, row_at}
use Rattle.sacn_source.proofs.Cores.{packet_told, packet_over, core_given, ok_given}
use Rattle.sacn_source.proofs.Waking.{looked_sent}
use Rattle.sacn_source.proofs.source.SourceCore.give_packet.Goals as goal

pub invariant_of-self : goal.invariant_of-self
invariant_of-self c = (ok_given _ _ c.self.invariant.0, looked_sent _ _ _ c.args.place _ c.self.invariant.1 c.passed-self-inside.ensures.least c.passed-self-inside.ensures.exact c.passed-self-inside.ensures.from c.note_packet.ensures)

pub returns-clause-answer : goal.returns-clause-answer
returns-clause-answer c =
    let same = c.at-row.ensures.row ∙ ap (λ (s : Source). row_at s.table c.args.place) c.self.view_is in
    packet_told c.args.self.now.sender (row_at c.args.self.now.table c.args.place) _ _ (subst (λ (r : SourceUniverse). RowOk r) same c.at-row.ensures.lawful) (ap (λ (r : SourceUniverse). r.line.universe) same) c.write_packet-len.ensures.len

pub returns-clause-octets : goal.returns-clause-octets
returns-clause-octets c =
    let same = c.at-row.ensures.row ∙ ap (λ (s : Source). row_at s.table c.args.place) c.self.view_is in
    packet_over c.args.self.now.sender (row_at c.args.self.now.table c.args.place) _ _ (subst (λ (r : SourceUniverse). RowOk r) same c.at-row.ensures.lawful)
    (c.write_packet-len.ensures.octets ∙ (λ i. packet_text (packet_of (c.self.view_is i).sender (same i)) ++ drop 638 c.args.out.now))

pub returns-clause-core : goal.returns-clause-core
returns-clause-core c = core_given _ c.args.self.now c.args.place _ c.self.view_is c.note_packet.ensures
