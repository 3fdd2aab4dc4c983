use Rattle.std.proofs.Common.{ℕ, List, [], ◌++◌, ◌+◌, refl, arith}
use Rattle.std.specs.Int.{w16, w32, to_be_bytes}
use Rattle.sacn_packets.specs.RootText.{identifier, flags_and_length}
use Rattle.sacn_packets.proofs.TextsInTurn.{nothing_written, put_next}
use Rattle.sacn_packets.proofs.root.writing.write_root.Goals as goal

pub returns : goal.returns
returns c =
    let old : List ℕ = c.args.out.now in
    let front : List ℕ = to_be_bytes w16 16 ++ to_be_bytes w16 0 ++ identifier in
    let field : List ℕ = flags_and_length (22 + c.args.body_len) in
    let vector : List ℕ = to_be_bytes w32 c.args.vector in
    let a = put_next old old c.put.new.out 0 16 [] front front (nothing_written old) c.put.ensures refl refl (omega arith) in
    let b = put_next old c.put.new.out c.put-2.new.out 16 18 front c.pdu_field.result field a c.put-2.ensures c.pdu_field.ensures refl (omega arith) in
    let d = put_next old c.put-2.new.out c.put-3.new.out 18 22 (front ++ field) c.to_be_bytes.result vector b c.put-3.ensures c.to_be_bytes.ensures refl (omega arith) in
    let e = put_next old c.put-3.new.out c.put-4.new.out 22 38 (front ++ field ++ vector) c.args.cid.now c.args.cid.now d c.put-4.ensures refl (omega (arith, c.told-cid)) (omega arith) in
    e.is
