-- The fields of a page, read at their places among all octets.
use Rattle.std.proofs.Common.{◌≡◌, ℕ, ◌+◌, ◌-◌, ◌*◌, ◌/◌, ◌<◌, List, length, get_or, drop, sym, ap, ◌∙◌, arith}
use Rattle.std.specs.Prelude.{slice_range}
use Rattle.std.proofs.lemmas.List.{get_or-drop, get_or-take, length-take, length-drop}
use Rattle.sacn_packets.specs.Octets.{number16_at, length_of}
use Rattle.sacn_packets.specs.RootReading.{root_at}
use Rattle.sacn_packets.specs.PageLayers.{page_in, IsPageLaidOut}
use Rattle.sacn_packets.proofs.Numbers.{length_numbers, number_at}
use Rattle.sacn_packets.proofs.LayersRead.{octet_of_body, range_of_body, rest_of_body}

pub name_there : (octets : List ℕ) → IsPageLaidOut octets → slice_range octets 44 108 ≡ (page_in octets).name
name_there octets is = sym (range_of_body octets 6 70 (16 + length_of octets 16) (omega arith) (omega (arith, is.least)))

pub page_there : (octets : List ℕ) → IsPageLaidOut octets → get_or octets 118 0 ≡ (page_in octets).page
page_there octets is = sym (octet_of_body octets 80 (16 + length_of octets 16) (omega (arith, is.least)))

pub last_there : (octets : List ℕ) → IsPageLaidOut octets → get_or octets 119 0 ≡ (page_in octets).last
last_there octets is = sym (octet_of_body octets 81 (16 + length_of octets 16) (omega (arith, is.least)))

tail_is : (octets : List ℕ) → IsPageLaidOut octets → drop 82 (root_at octets).body ≡ slice_range octets 120 (16 + length_of octets 16)
tail_is octets is = rest_of_body octets 82 (16 + length_of octets 16) (omega (arith, is.least))

pub length_tail : (octets : List ℕ) → IsPageLaidOut octets → length (drop 82 (root_at octets).body) ≡ 16 + length_of octets 16 - 120
length_tail octets is = ap length (tail_is octets is) ∙ omega (arith, length-take (16 + length_of octets 16 - 120) (drop 120 octets), length-drop 120 octets, is.whole, is.least)

pub count_there : (octets : List ℕ) → IsPageLaidOut octets → (16 + length_of octets 16 - 120) / 2 ≡ length (page_in octets).numbers
count_there octets is = sym (length_numbers (drop 82 (root_at octets).body) ∙ ap (λ (n : ℕ). n / 2) (length_tail octets is))

pub number_there : (octets : List ℕ) (i : ℕ) → IsPageLaidOut octets → i < length (page_in octets).numbers → number16_at octets (120 + 2 * i) ≡ get_or (page_in octets).numbers i 0
number_there octets i is lt =
    let end : ℕ = 16 + length_of octets 16 in
    let tail : List ℕ = drop 82 (root_at octets).body in
    let many : i < (end - 120) / 2 = omega (arith, lt, count_there octets is) in
    let few : i < length tail / 2 = omega (arith, lt, length_numbers tail) in
    let high : get_or tail (2 * i) 0 ≡ get_or octets (120 + 2 * i) 0 =
    ap (λ (xs : List ℕ). get_or xs (2 * i) 0) (tail_is octets is) ∙ get_or-take (end - 120) (drop 120 octets) (2 * i) 0 (omega (arith, many)) ∙ get_or-drop 120 octets (2 * i) 0 in
    let low : get_or tail (2 * i + 1) 0 ≡ get_or octets (120 + (2 * i + 1)) 0 =
    ap (λ (xs : List ℕ). get_or xs (2 * i + 1) 0) (tail_is octets is) ∙ get_or-take (end - 120) (drop 120 octets) (2 * i + 1) 0 (omega (arith, many)) ∙ get_or-drop 120 octets (2 * i + 1) 0 in
    let place : 120 + (2 * i + 1) ≡ 120 + 2 * i + 1 = omega arith in
    let next : get_or octets (120 + (2 * i + 1)) 0 ≡ get_or octets (120 + 2 * i + 1) 0 = ap (λ (n : ℕ). get_or octets n 0) place in
    omega (arith, number_at tail i few, high, low, next)
