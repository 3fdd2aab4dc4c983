use Rattle.sacn_discovery.specs.Collection.{nothing_known}
use Rattle.sacn_edge.specs.Additions.{Adds}
use Rattle.sacn_text.specs.Decoding.{decoded, octets_of}
use Rattle.sacn_text.specs.declared.marked_writer.MarkedWriter.{MarkedWriter}
use Rattle.sacn_text.proofs.Prints.{Told, has, decodes, decoded_all}
use Rattle.sacn_text.proofs.print.print_packets.Goals as goal

pub returns-clause-ok : goal.returns-clause-ok
returns-clause-ok g c =
    let contents = g.W.Write.contents in
    let below = λ (m : MarkedWriter g.row.W.Denot). m.writer in
    let first = c.new-out.result in
    let last = c.decode_text-ended.new.out in
    decoded_all {A = λ xs. Adds (Told contents below first) (Told contents below last) xs} (has contents below first last c.args.writer c.new-out.ensures.writer) _ _ c.decode_text-ended.result (decoded nothing_known 0 (octets_of c.args.datagrams.now)).text c.decode_text-ended.ensures.ok

pub returns-clause-err : goal.returns-clause-err
returns-clause-err g c =
    let contents = g.W.Write.contents in
    let below = λ (m : MarkedWriter g.row.W.Denot). m.writer in
    let first = c.new-out.result in
    let last = c.decode_text-ended.new.out in
    decodes {A = λ xs. Adds (Told contents below first) (Told contents below last) xs} (has contents below first last c.args.writer c.new-out.ensures.writer) c.decode_text-ended.result c.decode_text-ended.new.out.failed (decoded nothing_known 0 (octets_of c.args.datagrams.now)) c.decode_text-ended.ensures.err
