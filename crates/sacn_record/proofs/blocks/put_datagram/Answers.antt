use Rattle.std.proofs.Common.{◌≡◌, ◌+◌, ◌-◌, ◌/◌, ◌%◌, ◌^◌, ℕ, length, refl, ap, ◌∙◌, arith, rules}
use Rattle.sacn_record.specs.Blocks.{padding, packet_body}
use Rattle.sacn_record.specs.Packets.{packet}
use Rattle.sacn_record.specs.Recordings.{sent_of}
use Rattle.sacn_record.proofs.Whole.{datagram_put, packet_body_length, packet_count}
use Rattle.sacn_record.proofs.blocks.put_datagram.Goals as goal

pub returns-clause-block : goal.returns-clause-block
returns-clause-block c =
    let heard = c.args.heard.now in
    let sent = sent_of heard in
    let pad = c.padding-pad.result.now in
    let n : ℕ = length heard.payload.now in
    let count : 28 + n ≡ length (packet sent) = packet_count c.put_words.new.out.items c.put_packet.new.out.items (packet sent) n c.put_packet.ensures.items c.put_packet.ensures.len in
    let few : length pad ≡ (4 - (28 + n) % 4) % 4 = c.padding-pad.ensures.few in
    let same : (4 - (28 + n) % 4) % 4 ≡ (4 - length (packet sent) % 4) % 4 = ap (λ (k : ℕ). (4 - k % 4) % 4) count in
    let size : 32 + (28 + n) + length pad ≡ length (packet_body heard.moment (packet sent)) + 12 = omega (arith, packet_body_length heard.moment (packet sent), few ∙ same, count) in
    datagram_put heard.moment sent c.args.out.now.items c.put_words.new.out.items c.put_packet.new.out.items c.put.new.out.items c.put_words-2.new.out.items pad (32 + (28 + n) + length pad) (heard.moment / 2 ^ 32) (heard.moment % 2 ^ 32) (28 + n)
    size refl refl count (c.padding-pad.ensures.zeros ∙ ap (λ (k : ℕ). padding k) count) c.requires.empty c.put_words.ensures.items c.put_packet.ensures.items c.put.ensures.items c.put_words-2.ensures.items

pub returns-clause-fits : goal.returns-clause-fits
returns-clause-fits c =
    let h = c.type_inv.heard in
    record { moment = omega (arith, h); sender = first_of (search (rules, h), omega (arith, h)); sender_port = omega (arith, h); destination = first_of (search (rules, h), omega (arith, h)); destination_port = omega (arith, h); payload = c.requires.payload }
