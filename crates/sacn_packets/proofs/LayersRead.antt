-- The fields of the inner layers, read at their places among all octets.
use Rattle.std.proofs.Common.{◌≡◌, ℕ, zero, suc, ◌+◌, ◌-◌, ◌≤◌, ◌<◌, List, [], ◌∷◌, get_or, take, drop, refl, sym, ap, ◌∙◌, arith}
use Rattle.std.specs.Prelude.{slice_range}
use Rattle.std.proofs.lemmas.List.{drop-drop, drop-take, get_or-drop, get_or-take}
use Rattle.sacn_packets.specs.Octets.{number16_at, length_of}
use Rattle.sacn_packets.specs.RootReading.{root_at}
use Rattle.sacn_packets.specs.DataLayers.{data_in, IsLaidOut}

pub take-take : (n m : ℕ) (xs : List ℕ) → n ≤ m → take n (take m xs) ≡ take n xs
take-take zero m xs le = refl
take-take (suc n) zero xs le = absurd (omega arith)
take-take (suc n) (suc m) [] le = refl
take-take (suc n) (suc m) (x ∷ xs) le = ap (λ (ys : List ℕ). x ∷ ys) (take-take n m xs (omega arith))

-- an octet of the root PDU's body, which ends at place end
pub octet_of_body : (octets : List ℕ) (k end : ℕ) → 38 + k < end → get_or (slice_range octets 38 end) k 0 ≡ get_or octets (38 + k) 0
octet_of_body octets k end lt = get_or-take (end - 38) (drop 38 octets) k 0 (omega arith) ∙ get_or-drop 38 octets k 0

pub range_of_body : (octets : List ℕ) (a b end : ℕ) → a ≤ b → 38 + b ≤ end → slice_range (slice_range octets 38 end) a b ≡ slice_range octets (38 + a) (38 + b)
range_of_body octets a b end le within =
    let room : end - 38 ≡ a + (end - 38 - a) = omega arith in
    let size : 38 + b - (38 + a) ≡ b - a = omega arith in
    ap (λ (n : ℕ). take (b - a) (drop a (take n (drop 38 octets)))) room
    ∙ ap (λ (xs : List ℕ). take (b - a) xs) (drop-take a (end - 38 - a) (drop 38 octets))
    ∙ take-take (b - a) (end - 38 - a) (drop a (drop 38 octets)) (omega arith)
    ∙ ap (λ (xs : List ℕ). take (b - a) xs) (drop-drop a 38 octets)
    ∙ sym (ap (λ (n : ℕ). take n (drop (38 + a) octets)) size)

-- what the body has from a place on
pub rest_of_body : (octets : List ℕ) (a end : ℕ) → 38 + a ≤ end → drop a (slice_range octets 38 end) ≡ slice_range octets (38 + a) end
rest_of_body octets a end within =
    let room : end - 38 ≡ a + (end - (38 + a)) = omega arith in
    ap (λ (n : ℕ). drop a (take n (drop 38 octets))) room
    ∙ drop-take a (end - (38 + a)) (drop 38 octets)
    ∙ ap (λ (xs : List ℕ). take (end - (38 + a)) xs) (drop-drop a 38 octets)

pub name_there : (octets : List ℕ) → IsLaidOut octets → slice_range octets 44 108 ≡ (data_in octets).name
name_there octets is = sym (range_of_body octets 6 70 (16 + length_of octets 16) (omega arith) (omega (arith, is.least)))

pub priority_there : (octets : List ℕ) → IsLaidOut octets → get_or octets 108 0 ≡ (data_in octets).priority
priority_there octets is = sym (octet_of_body octets 70 (16 + length_of octets 16) (omega (arith, is.least)))

pub number_there : (octets : List ℕ) → IsLaidOut octets → get_or octets 111 0 ≡ (data_in octets).number
number_there octets is = sym (octet_of_body octets 73 (16 + length_of octets 16) (omega (arith, is.least)))

pub options_there : (octets : List ℕ) → IsLaidOut octets → get_or octets 112 0 ≡ get_or (root_at octets).body 74 0
options_there octets is = sym (octet_of_body octets 74 (16 + length_of octets 16) (omega (arith, is.least)))

pub universe_there : (octets : List ℕ) → IsLaidOut octets → number16_at octets 113 ≡ (data_in octets).universe
universe_there octets is =
    let end : ℕ = 16 + length_of octets 16 in
    let high = octet_of_body octets 75 end (omega (arith, is.least)) in
    let low = octet_of_body octets 76 end (omega (arith, is.least)) in
    omega (arith, high, low)

pub start_there : (octets : List ℕ) → IsLaidOut octets → get_or octets 125 0 ≡ (data_in octets).start
start_there octets is = sym (get_or-drop 77 (root_at octets).body 10 0 ∙ octet_of_body octets 87 (16 + length_of octets 16) (omega (arith, is.least)))

pub slots_there : (octets : List ℕ) → IsLaidOut octets → slice_range octets 126 (16 + length_of octets 16) ≡ (data_in octets).slots
slots_there octets is = sym (drop-drop 11 77 (root_at octets).body ∙ rest_of_body octets 88 (16 + length_of octets 16) (omega (arith, is.least)))
