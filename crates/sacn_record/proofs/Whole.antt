-- The blocks, from what was put.
use Rattle.std.proofs.Common.{◌≡◌, ℕ, ◌+◌, ◌-◌, ◌/◌, ◌%◌, ◌^◌, List, [], ◌∷◌, ◌++◌, length, replicate, refl, ap, ◌∙◌, length-append, arith}
use Rattle.std.proofs.lemmas.List.{length-replicate}
use Rattle.std.specs.Int.{w16, to_le_bytes}
use Rattle.sacn_capture.specs.Frames.{Sent}
use Rattle.sacn_record.specs.Packets.{packet}
use Rattle.sacn_record.specs.Blocks.{little16, little32, padding, block, option, section_body, interface_body, packet_body}
use Rattle.sacn_record.specs.Recordings.{beginning, datagram_block}
use Rattle.sacn_record.specs.Writing.{words}

pub packet_body_length : (moment : ℕ) (p : List ℕ) → length (packet_body moment p) ≡ 20 + length p + (4 - length p % 4) % 4
unfolding packet_body little32 padding
packet_body_length moment p = omega (arith, length-append p (replicate ((4 - length p % 4) % 4) 0), length-replicate {A = ℕ} ((4 - length p % 4) % 4) 0)

pub section_body_length : (program : List ℕ) → length (section_body program) ≡ 24 + length program + (4 - length program % 4) % 4
unfolding section_body little32 little16 option padding
section_body_length program =
    let pad = replicate {A = ℕ} ((4 - length program % 4) % 4) 0 in
    omega (arith, length-append (program ++ pad) (0 ∷ 0 ∷ 0 ∷ 0 ∷ []), length-append program pad, length-replicate {A = ℕ} ((4 - length program % 4) % 4) 0)

-- how many octets a packet has, by what it was put to
pub packet_count : (o1 o2 p : List ℕ) (n : ℕ) → o2 ≡ o1 ++ p → length o2 ≡ length o1 + 28 + n → 28 + n ≡ length p
packet_count o1 o2 p n e len = omega (arith, ap length e, length-append o1 p, len)

datagram_parts : List ℕ → ℕ → ℕ → ℕ → ℕ → List ℕ → List ℕ
datagram_parts p size high low len pad = words (6 ∷ size ∷ 0 ∷ high ∷ low ∷ len ∷ len ∷ []) ++ p ++ pad ++ words (size ∷ [])

datagram_exact : (moment : ℕ) (p : List ℕ) → datagram_parts p (length (packet_body moment p) + 12) (moment / 2 ^ 32) (moment % 2 ^ 32) (length p) (padding (length p)) ≡ block 6 (packet_body moment p)
unfolding datagram_parts block packet_body little32
datagram_exact moment p = refl

pub datagram_put : (moment : ℕ) (sent : Sent) (old o1 o2 o3 o4 pad : List ℕ) (size high low len : ℕ)
    → size ≡ length (packet_body moment (packet sent)) + 12 → high ≡ moment / 2 ^ 32 → low ≡ moment % 2 ^ 32 → len ≡ length (packet sent) → pad ≡ padding (length (packet sent)) → old ≡ []
    → o1 ≡ old ++ words (6 ∷ size ∷ 0 ∷ high ∷ low ∷ len ∷ len ∷ []) → o2 ≡ o1 ++ packet sent → o3 ≡ o2 ++ pad → o4 ≡ o3 ++ words (size ∷ [])
    → o4 ≡ datagram_block (record { moment = moment; sent = sent })
unfolding datagram_block datagram_parts
datagram_put moment sent old o1 o2 o3 o4 pad size high low len es eh el en ep empty e1 e2 e3 e4 =
    let first = e1 ∙ ap (λ (xs : List ℕ). xs ++ words (6 ∷ size ∷ 0 ∷ high ∷ low ∷ len ∷ len ∷ [])) empty in
    let parts : o4 ≡ datagram_parts (packet sent) size high low len pad =
    e4 ∙ ap (λ (xs : List ℕ). xs ++ words (size ∷ [])) (e3 ∙ ap (λ (xs : List ℕ). xs ++ pad) (e2 ∙ ap (λ (xs : List ℕ). xs ++ packet sent) first)) in
    let same : datagram_parts (packet sent) size high low len pad
    ≡ datagram_parts (packet sent) (length (packet_body moment (packet sent)) + 12) (moment / 2 ^ 32) (moment % 2 ^ 32) (length (packet sent)) (padding (length (packet sent))) =
    λ i. datagram_parts (packet sent) (es i) (eh i) (el i) (en i) (ep i) in
    parts ∙ same ∙ datagram_exact moment (packet sent)

beginning_parts : List ℕ → ℕ → ℕ → List ℕ → List ℕ
beginning_parts program size len pad =
    words (0x0a0d0d0a ∷ size ∷ 0x1a2b3c4d ∷ 1 ∷ 0xffffffff ∷ 0xffffffff ∷ []) ++ to_le_bytes w16 4 ++ to_le_bytes w16 len ++ program ++ pad ++ words (0 ∷ []) ++ words (size ∷ [])
    ++ words (1 ∷ 32 ∷ 228 ∷ 0 ∷ 65545 ∷ 6 ∷ 0 ∷ 32 ∷ [])

beginning_exact : (program : List ℕ) → beginning_parts program (length (section_body program) + 12) (length program) (padding (length program)) ≡ beginning program
unfolding beginning_parts beginning block section_body interface_body option padding little32 little16
beginning_exact program = refl

pub beginning_put : (program old o1 o2 o3 o4 o5 o6 o7 o8 pad : List ℕ) (size len : ℕ) → size ≡ length (section_body program) + 12 → len ≡ length program → pad ≡ padding (length program) → old ≡ []
    → o1 ≡ old ++ words (0x0a0d0d0a ∷ size ∷ 0x1a2b3c4d ∷ 1 ∷ 0xffffffff ∷ 0xffffffff ∷ []) → o2 ≡ o1 ++ to_le_bytes w16 4 → o3 ≡ o2 ++ to_le_bytes w16 len → o4 ≡ o3 ++ program → o5 ≡ o4 ++ pad
    → o6 ≡ o5 ++ words (0 ∷ []) → o7 ≡ o6 ++ words (size ∷ []) → o8 ≡ o7 ++ words (1 ∷ 32 ∷ 228 ∷ 0 ∷ 65545 ∷ 6 ∷ 0 ∷ 32 ∷ []) → o8 ≡ beginning program
unfolding beginning_parts
beginning_put program old o1 o2 o3 o4 o5 o6 o7 o8 pad size len es en ep empty e1 e2 e3 e4 e5 e6 e7 e8 =
    let f1 = e1 ∙ ap (λ (xs : List ℕ). xs ++ words (0x0a0d0d0a ∷ size ∷ 0x1a2b3c4d ∷ 1 ∷ 0xffffffff ∷ 0xffffffff ∷ [])) empty in
    let f2 = e2 ∙ ap (λ (xs : List ℕ). xs ++ to_le_bytes w16 4) f1 in
    let f3 = e3 ∙ ap (λ (xs : List ℕ). xs ++ to_le_bytes w16 len) f2 in
    let f5 = e5 ∙ ap (λ (xs : List ℕ). xs ++ pad) (e4 ∙ ap (λ (xs : List ℕ). xs ++ program) f3) in
    let f7 = e7 ∙ ap (λ (xs : List ℕ). xs ++ words (size ∷ [])) (e6 ∙ ap (λ (xs : List ℕ). xs ++ words (0 ∷ [])) f5) in
    let parts : o8 ≡ beginning_parts program size len pad = e8 ∙ ap (λ (xs : List ℕ). xs ++ words (1 ∷ 32 ∷ 228 ∷ 0 ∷ 65545 ∷ 6 ∷ 0 ∷ 32 ∷ [])) f7 in
    let same : beginning_parts program size len pad ≡ beginning_parts program (length (section_body program) + 12) (length program) (padding (length program)) =
    λ i. beginning_parts program (es i) (en i) (ep i) in
    parts ∙ same ∙ beginning_exact program
