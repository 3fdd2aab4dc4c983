use Rattle.std.proofs.Common.{◌<◌, length, get_or, set, ap, ◌∙◌, arith}
use Rattle.std.proofs.lemmas.List.{length-map}
use Rattle.sacn_sources.specs.Rows.{rows_kept, take_row}
use Rattle.sacn_sources.specs.LatestMerge.{Kept}
use Rattle.sacn_node.specs.Cores.{Core, with_taken}
use Rattle.sacn_sources.specs.Packets.{packet_of}
use Rattle.sacn_node.specs.Storage.{seen}
use Rattle.sacn_sources.proofs.Wakes.{taken_oldest, kept_oldest}
use Rattle.sacn_node.proofs.Expiry.{one_written, one_stays}
use Rattle.sacn_node.proofs.tables.Tables.take_at.Goals as goal

pub returns-clause-core : goal.returns-clause-core
returns-clause-core c d =
    let x = packet_of c.args.packet.now in
    one_written (λ t rs. take_row x t (rows_kept t rs)) c.self.inside.moment c.self.inside.earliest c.self.inside.list.items c.args.at c.index_mut.result.now c.take.new.self (omega (arith, c.requires, ap (λ (n : Core). length n.tables) c.self.view_is, length-map c.self.inside.list.items seen)) c.index_mut.ensures.value c.self.invariant d
    (ap (λ (k : Kept). k.table.rows) c.take.ensures.table)
    ∙ ap (λ (n : Core). let new : Core = record { moment = n.moment; tables = set n.tables c.args.at (with_taken x n.moment (get_or n.tables c.args.at d)) } in new) c.self.view_is

pub invariant_of-self : goal.invariant_of-self
invariant_of-self c =
    let x = packet_of c.args.packet.now in
    let within : c.args.at < length c.self.inside.list.items = omega (arith, c.requires, ap (λ (n : Core). length n.tables) c.self.view_is, length-map c.self.inside.list.items seen) in
    one_stays (λ t rs. take_row x t (rows_kept t rs)) c.self.inside.moment c.self.inside.earliest c.self.inside.list.items c.args.at c.index_mut.result.now c.take.new.self within c.index_mut.ensures.value c.self.invariant
    (λ rs. omega (arith, taken_oldest x c.self.inside.moment (rows_kept c.self.inside.moment rs), kept_oldest c.self.inside.moment rs))
    (ap (λ (k : Kept). k.table.rows) c.take.ensures.table) (ap (λ (k : Kept). k.table.moment) c.take.ensures.table)
