use Rattle.std.proofs.Common.{◌≡◌, ℕ, List, [], ◌∷◌, ◌++◌, ◌+◌, refl, ap, arith}
use Rattle.std.specs.Int.{w16, w32, to_be_bytes}
use Rattle.sacn_packets.specs.RootText.{flags_and_length}
use Rattle.sacn_packets.proofs.TextsInTurn.{nothing_written, put_next}
use Rattle.sacn_packets.specs.Fields.{data_from}
use Rattle.sacn_packets.specs.FramingText.{Framing, options, nothing}
use Rattle.sacn_packets.specs.PacketText.{framing}
use Rattle.sacn_packets.proofs.framing.writing.write_framing.Goals as goal

pub returns : goal.returns
returns c =
    let old : List ℕ = c.args.out.now in
    let f : Framing = framing (data_from c.args.fields.now) in
    let field : List ℕ = flags_and_length (77 + c.args.body_len) in
    let vector : List ℕ = to_be_bytes w32 2 in
    let priority : List ℕ = f.priority ∷ [] in
    let none : List ℕ = to_be_bytes w16 0 in
    let number : List ℕ = f.number ∷ [] in
    let option : List ℕ = options f nothing ∷ [] in
    let universe : List ℕ = to_be_bytes w16 f.universe in
    let a = put_next old old c.put.new.out 0 2 [] c.pdu_field.result field (nothing_written old) c.put.ensures c.pdu_field.ensures refl (omega arith) in
    let b = put_next old c.put.new.out c.put-2.new.out 2 6 field c.to_be_bytes.result vector a c.put-2.ensures c.to_be_bytes.ensures refl (omega arith) in
    let d = put_next old c.put-2.new.out c.put-3.new.out 6 70 (field ++ vector) f.name f.name b c.put-3.ensures refl (omega arith) (omega arith) in
    let e = put_next old c.put-3.new.out c.put-4.new.out 70 71 (field ++ vector ++ f.name) priority priority d c.put-4.ensures refl refl (omega arith) in
    let g = put_next old c.put-4.new.out c.put-5.new.out 71 73 (field ++ vector ++ f.name ++ priority) none none e c.put-5.ensures refl refl (omega arith) in
    let h = put_next old c.put-5.new.out c.put-6.new.out 73 74 (field ++ vector ++ f.name ++ priority ++ none) number number g c.put-6.ensures refl refl (omega arith) in
    let bits : c.options_of.result ≡ options f nothing = omega (arith, c.options_of.ensures) in
    let j = put_next old c.put-6.new.out c.put-7.new.out 74 75 (field ++ vector ++ f.name ++ priority ++ none ++ number) (c.options_of.result ∷ []) option h c.put-7.ensures (ap (λ (n : ℕ). n ∷ []) bits) refl (omega arith) in
    let i = put_next old c.put-7.new.out c.put-8.new.out 75 77 (field ++ vector ++ f.name ++ priority ++ none ++ number ++ option) c.to_be_bytes-2.result universe j c.put-8.ensures c.to_be_bytes-2.ensures refl (omega arith) in
    i.is
