use Rattle.std.proofs.Common.{◌≡◌, ℕ, List, [], ◌∷◌, ◌++◌, ◌+◌, length, refl, ap, ◌∙◌, arith}
use Rattle.std.specs.Int.{w16, to_be_bytes}
use Rattle.sacn_packets.specs.RootText.{flags_and_length}
use Rattle.sacn_packets.proofs.TextsInTurn.{nothing_written, put_next}
use Rattle.sacn_packets.specs.DmpText.{Dmp, values}
use Rattle.sacn_packets.proofs.dmp.writing.write_dmp.Goals as goal

pub returns-clause-text : goal.returns-clause-text
returns-clause-text c =
    let old : List ℕ = c.args.out.now in
    let slots : List ℕ = c.args.slots.now in
    let d : Dmp = record { start = c.args.start; slots = slots } in
    let count : 1 + length slots ≡ length (values d) = omega arith in
    let len : 10 + (1 + length slots) ≡ 10 + length (values d) = omega arith in
    let field : List ℕ = flags_and_length (10 + length (values d)) in
    let fixed : List ℕ = 0x02 ∷ 0xa1 ∷ 0 ∷ 0 ∷ 0 ∷ 1 ∷ [] in
    let counted : List ℕ = to_be_bytes w16 (length (values d)) in
    let start : List ℕ = c.args.start ∷ [] in
    let a = put_next old old c.put.new.out 0 2 [] c.pdu_field.result field (nothing_written old) c.put.ensures (c.pdu_field.ensures ∙ ap flags_and_length len) refl (omega arith) in
    let b = put_next old c.put.new.out c.put-2.new.out 2 8 field fixed fixed a c.put-2.ensures refl refl (omega arith) in
    let e = put_next old c.put-2.new.out c.put-3.new.out 8 10 (field ++ fixed) c.to_be_bytes.result counted b c.put-3.ensures (c.to_be_bytes.ensures ∙ ap (λ (n : ℕ). to_be_bytes w16 n) count) refl (omega arith) in
    let f = put_next old c.put-3.new.out c.put-4.new.out 10 11 (field ++ fixed ++ counted) start start e c.put-4.ensures refl refl (omega arith) in
    let g = put_next old c.put-4.new.out c.put-5.new.out 11 (10 + (1 + length slots)) (field ++ fixed ++ counted ++ start) slots slots f c.put-5.ensures refl (omega arith) (omega arith) in
    g.is
