-- The three heads and the values, joined, are the text of a data packet.
use Rattle.std.proofs.Common.{◌≡◌, ℕ, ◌+◌, List, ◌++◌, length, ap, ◌∙◌, append_assoc, arith}
use Rattle.sacn_packets.specs.RootText.{root_head}
use Rattle.sacn_packets.specs.DmpText.{dmp_text}
use Rattle.sacn_packets.specs.Data.{Data}
use Rattle.sacn_packets.specs.FramingText.{Ignored, framing_head, framing_text}
use Rattle.sacn_packets.specs.PacketText.{framing, data_text}
use Rattle.sacn_packets.proofs.FramingLaws.{length_framing_text}

pub joined_text : (d : Data) (i : Ignored) → length d.name ≡ 64
    → root_head 4 d.cid (87 + (1 + length d.slots)) ++ framing_head (framing d) i (10 + (1 + length d.slots)) ++ dmp_text (record { start = d.start; slots = d.slots }) ≡ data_text d i
joined_text d i name =
    let dmp : List ℕ = dmp_text (record { start = d.start; slots = d.slots }) in
    let inner : 10 + (1 + length d.slots) ≡ length dmp = omega arith in
    let outer : 87 + (1 + length d.slots) ≡ length (framing_text (framing d) i) = omega (arith, inner, length_framing_text (framing d) i name) in
    append_assoc (root_head 4 d.cid (87 + (1 + length d.slots))) (framing_head (framing d) i (10 + (1 + length d.slots))) dmp
    ∙ ap (λ (n : ℕ). root_head 4 d.cid (87 + (1 + length d.slots)) ++ (framing_head (framing d) i n ++ dmp)) inner
    ∙ ap (λ (n : ℕ). root_head 4 d.cid n ++ framing_text (framing d) i) outer
