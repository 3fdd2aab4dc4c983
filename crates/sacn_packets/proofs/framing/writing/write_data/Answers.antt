use Rattle.std.proofs.Common.{◌≡◌, ℕ, List, ◌++◌, ◌+◌, length, drop, ap, ◌∙◌, arith}
use borrow.Rule.Slice.PartMut.{put_mid}
use Rattle.sacn_packets.specs.RootText.{root_head}
use Rattle.sacn_packets.proofs.TextsInTurn.{IsWritten, tail_written}
use Rattle.sacn_packets.specs.DmpText.{dmp_text}
use Rattle.sacn_packets.specs.Data.{Data, IsData}
use Rattle.sacn_packets.specs.Fields.{data_from}
use Rattle.sacn_packets.specs.FramingText.{framing_head, nothing}
use Rattle.sacn_packets.specs.PacketText.{framing}
use Rattle.sacn_packets.proofs.FramingLaws.{length_framing_head}
use Rattle.sacn_packets.proofs.Packets.{data_reads_back}
use Rattle.sacn_packets.proofs.Writes.{joined_text}
use Rattle.sacn_packets.proofs.framing.writing.write_data.Goals as goal

pub returns-clause-text : goal.returns-clause-text
returns-clause-text c =
    let old : List ℕ = c.args.out.now in
    let d : Data = data_from c.args.fields.now in
    let count : ℕ = 1 + length d.slots in
    let size : length old ≡ 638 = omega arith in
    let name : length d.name ≡ 64 = omega arith in
    let cid : length d.cid ≡ 16 = omega arith in
    let root : List ℕ = root_head 4 d.cid (87 + count) in
    let head : List ℕ = framing_head (framing d) nothing (10 + count) in
    let dmp : List ℕ = dmp_text (record { start = d.start; slots = d.slots }) in
    let a : IsWritten old c.write_root.new.out 38 root = record { len = omega (arith, cid); room = omega (arith, size); is = c.write_root.ensures } in
    let b = tail_written old c.write_root.new.out c.write_framing.new.out 38 77 600 root head a (omega (arith, size)) (length_framing_head (framing d) nothing (10 + count) name) (omega arith) c.write_framing.ensures in
    let e = tail_written old (put_mid 38 600 c.write_root.new.out c.write_framing.new.out) c.write_dmp.new.out 115 c.write_dmp.result 523 (root ++ head) dmp b (omega (arith, size)) (omega (arith, c.write_dmp.ensures.len)) (omega (arith, c.write_dmp.ensures.len, c.requires.slots)) c.write_dmp.ensures.text in
    e.is ∙ ap (λ (xs : List ℕ). xs ++ drop (115 + c.write_dmp.result) old) (joined_text d nothing name)

pub returns-clause-reading : goal.returns-clause-reading
returns-clause-reading c =
    let d : Data = data_from c.args.fields.now in
    let is : IsData d = record {
      cid = omega arith;
      name = omega arith;
      priority = c.requires.priority;
      universe = (c.requires.least_universe, c.requires.most_universe);
      slots = c.requires.slots;
    } in
    data_reads_back _ c.args.out.now (115 + c.write_dmp.result) d is (returns-clause-text c) (omega (arith, c.write_dmp.ensures.len))
