use Rattle.std.proofs.Common.{◌≡◌, ◌<◌, ◌+◌, ◌++◌, ◌∙◌, sym, ap, subst, List, ℕ, length, take, drop, arith, Vec, Global}
use Rattle.sacn_packets.specs.PacketReading.{reading_packet}
use Rattle.sacn_discovery.specs.Collection.{nothing_known, State}
use Rattle.sacn_edge.specs.Additions.{Adds}
use Rattle.sacn_text.specs.Decoding.{block, decoded, then_text, octets_of}
use Rattle.sacn_edge.proofs.ToldLemmas.{Adds-append}
use Rattle.sacn_text.proofs.Decodes.{told_part, written_part, packet_more, is_refused}
use Rattle.sacn_text.proofs.decode.decode_text.Goals as goal

pub returns-in_default-clause-err : goal.returns-in_default-clause-err
returns-in_default-clause-err g c =
    let ds : List (Vec ℕ Global) = c.args.datagrams.now in
    let so = c.loop-i.invariant.so_far in
    let d : Vec ℕ Global = c.index-datagrams-i.result in
    let read = c.read_packet.ensures.exact ∙ ap reading_packet (c.as_slice.ensures.value ∙ ap (λ (v : Vec ℕ Global). v.items) c.index-datagrams-i.is) in
    let part = told_part (decoded nothing_known 0 (octets_of ds)) so.0 c.loop-i.collector ds c.loop-i.i so.2 d (omega arith) c.read_packet.result read c.in-Ok.packet c.in-Ok.is in
    (c.loop-i.invariant.works, (length so.0, subst (λ (l : List ℕ). Adds (g.O.Out.Tells c.args.out.now) (g.O.Out.Tells c.loop-i.out) l) (sym part) so.1))

pub returns-in_default-write_text-clause-err : goal.returns-in_default-write_text-clause-err
returns-in_default-write_text-clause-err g c =
    let ds : List (Vec ℕ Global) = c.args.datagrams.now in
    let so = c.loop-i.invariant.so_far in
    let d : Vec ℕ Global = c.index-datagrams-i.result in
    let read = c.read_packet.ensures.exact ∙ ap reading_packet (c.as_slice.ensures.value ∙ ap (λ (v : Vec ℕ Global). v.items) c.index-datagrams-i.is) in
    let bad = c.in_default-write_text.ensures.err in
    let n : ℕ = bad.1.0 in
    let same : c.as_slice-in-Ok.result.now ≡ block c.in-Ok.packet c.loop-i.collector = c.as_slice-in-Ok.ensures.value ∙ c.in-Ok-block_of.ensures.0 in
    let part = written_part (decoded nothing_known 0 (octets_of ds)) so.0 c.loop-i.collector ds c.loop-i.i so.2 d (omega arith) c.read_packet.result read c.in-Ok.packet c.in-Ok.is n (subst (λ (l : List ℕ). n < length l) same bad.1.1) in
    let path = ap (λ (l : List ℕ). so.0 ++ take n l) same ∙ sym part.1 in
    (bad.0, (length so.0 + n, part.0, subst (λ (l : List ℕ). Adds (g.O.Out.Tells c.args.out.now) (g.O.Out.Tells c.write_text.new.out) l) path (Adds-append so.0 (take n c.as_slice-in-Ok.result.now) so.1 bad.1.2)))

pub returns-in-Err-clause-err : goal.returns-in-Err-clause-err
returns-in-Err-clause-err g c =
    let ds : List (Vec ℕ Global) = c.args.datagrams.now in
    let so = c.loop-i.invariant.so_far in
    let d : Vec ℕ Global = c.index-datagrams-i.result in
    let read = c.read_packet.ensures.exact ∙ ap reading_packet (c.as_slice.ensures.value ∙ ap (λ (v : Vec ℕ Global). v.items) c.index-datagrams-i.is) in
    let ends = is_refused (decoded nothing_known 0 (octets_of ds)) so.0 c.loop-i.collector ds c.loop-i.i so.2 d (omega arith) c.read_packet.result read c.in-Err.fault c.in-Err.is in
    (c.loop-i.invariant.works, ends.0, subst (λ (l : List ℕ). Adds (g.O.Out.Tells c.args.out.now) (g.O.Out.Tells c.loop-i.out) l) (sym ends.1) so.1)

pub loop-i-preserved : goal.loop-i-preserved
loop-i-preserved g c =
    let ds : List (Vec ℕ Global) = c.args.datagrams.now in
    let so = c.loop-i.invariant.so_far in
    let d : Vec ℕ Global = c.index-datagrams-i.result in
    let read = c.read_packet.ensures.exact ∙ ap reading_packet (c.as_slice.ensures.value ∙ ap (λ (v : Vec ℕ Global). v.items) c.index-datagrams-i.is) in
    let ok = c.in-Ok-write_text.ensures.ok in
    let text : List ℕ = block c.in-Ok.packet c.loop-i.collector in
    let same : c.as_slice-in-Ok.result.now ≡ text = c.as_slice-in-Ok.ensures.value ∙ c.in-Ok-block_of.ensures.0 in
    let more = packet_more (decoded nothing_known 0 (octets_of ds)) so.0 c.loop-i.collector ds c.loop-i.i so.2 d (omega arith) c.read_packet.result read c.in-Ok.packet c.in-Ok.is in
    record {
      works = ok.0;
      so_far = (
        so.0 ++ text,
        subst (λ (l : List ℕ). Adds (g.O.Out.Tells c.args.out.now) (g.O.Out.Tells c.write_text.new.out) l) (ap (λ (l : List ℕ). so.0 ++ l) same) (Adds-append so.0 c.as_slice-in-Ok.result.now so.1 ok.1),
        more ∙ ap (λ (t : State). then_text (so.0 ++ text) (decoded t (c.loop-i.i + 1) (drop (c.loop-i.i + 1) (octets_of ds)))) (sym c.in-Ok-block_of.ensures.1),
      );
    }
