-- What stands at a place of octets, and what follows it.
use Rattle.std.proofs.Common.{◌≡◌, ℕ, ◌+◌, ◌-◌, ◌*◌, ◌/◌, ◌%◌, ◌^◌, ◌<◌, ◌≤◌, List, [], ◌∷◌, ◌++◌, length, get_or, take, drop, sym, ap, ◌∙◌, append_assoc, arith, inl, inr}
use Rattle.std.specs.Prelude.{slice_range}
use Rattle.std.specs.Int.{w16, w32, to_be_bytes}
use Rattle.std.proofs.lemmas.List.{take-append-drop, drop-drop, drop_more, get_or-drop, get_or-take, get_or_past, length-take}
use Rattle.std.proofs.lemmas.Bool.{cases_lt}
use Rattle.sacn_packets.specs.Octets.{number16_at, number32_at}

abbrev pub IsBytes : List ℕ → Type 0
IsBytes octets = (i : ℕ) → get_or octets i 0 < 256

pub IsBytes-drop : (n : ℕ) (octets : List ℕ) → IsBytes octets → IsBytes (drop n octets)
IsBytes-drop n octets fits i = rw get_or-drop (fits (n + i))

pub IsBytes-take : (n : ℕ) (octets : List ℕ) → IsBytes octets → IsBytes (take n octets)
IsBytes-take n octets fits i =
    elim (cases_lt i n) [
      | inl lt ↦ rw (get_or-take n octets i 0 lt) (fits i)
      | inr le ↦ rw (get_or_past (take n octets) i 0 (omega (arith, length-take n octets))) (omega arith)
    ]

pub slice_piece : (octets : List ℕ) (a b : ℕ) → a ≤ b → drop a octets ≡ slice_range octets a b ++ drop b octets
slice_piece octets a b le =
    let e : a + (b - a) ≡ b = omega arith in
    sym (take-append-drop (b - a) (drop a octets)) ∙ ap (λ (xs : List ℕ). take (b - a) (drop a octets) ++ xs) (drop-drop (b - a) a octets ∙ ap (λ (n : ℕ). drop n octets) e)

drop_two : (octets : List ℕ) (at : ℕ) → at + 2 ≤ length octets → drop at octets ≡ get_or octets at 0 ∷ get_or octets (at + 1) 0 ∷ drop (at + 2) octets
drop_two octets at le =
    let second : drop (at + 1) octets ≡ get_or octets (at + 1) 0 ∷ drop (at + 1 + 1) octets = drop_more octets (at + 1) 0 (omega arith) in
    let e : at + 1 + 1 ≡ at + 2 = omega arith in
    drop_more octets at 0 (omega arith) ∙ ap (λ (xs : List ℕ). get_or octets at 0 ∷ xs) (second ∙ ap (λ (n : ℕ). get_or octets (at + 1) 0 ∷ drop n octets) e)

-- the octets of a number that was read are those that it was read from
pub number16_octets : (a b : ℕ) → a < 256 → b < 256 → to_be_bytes w16 (2 ^ 8 * a + b) ≡ a ∷ b ∷ []
number16_octets a b la lb =
    let high : (2 ^ 8 * a + b) / 256 % 256 ≡ a = omega arith in
    let low : (2 ^ 8 * a + b) % 256 ≡ b = omega arith in
    cc (high, low)

pub number16_piece : (octets : List ℕ) (at : ℕ) → IsBytes octets → at + 2 ≤ length octets → drop at octets ≡ to_be_bytes w16 (number16_at octets at) ++ drop (at + 2) octets
number16_piece octets at fits le =
    drop_two octets at le ∙ sym (ap (λ (xs : List ℕ). xs ++ drop (at + 2) octets) (number16_octets (get_or octets at 0) (get_or octets (at + 1) 0) (fits at) (fits (at + 1))))

number32_octets : (a b c d : ℕ) → a < 256 → b < 256 → c < 256 → d < 256 → to_be_bytes w32 (2 ^ 16 * (2 ^ 8 * a + b) + (2 ^ 8 * c + d)) ≡ a ∷ b ∷ c ∷ d ∷ []
number32_octets a b c d la lb lc ld =
    let n : ℕ = 2 ^ 16 * (2 ^ 8 * a + b) + (2 ^ 8 * c + d) in
    let first : n / 16777216 % 256 ≡ a = omega arith in
    let second : n / 65536 % 256 ≡ b = omega arith in
    let third : n / 256 % 256 ≡ c = omega arith in
    let fourth : n % 256 ≡ d = omega arith in
    cc (first, second, third, fourth)

pub number32_piece : (octets : List ℕ) (at : ℕ) → IsBytes octets → at + 4 ≤ length octets → drop at octets ≡ to_be_bytes w32 (number32_at octets at) ++ drop (at + 4) octets
number32_piece octets at fits le =
    let e : at + 2 + 2 ≡ at + 4 = omega arith in
    let f : at + 2 + 1 ≡ at + 3 = omega arith in
    let lower = drop_two octets (at + 2) (omega arith) in
    let whole = drop_two octets at (omega arith) ∙ ap (λ (xs : List ℕ). get_or octets at 0 ∷ get_or octets (at + 1) 0 ∷ xs) (lower ∙ ap (λ (n : ℕ). get_or octets (at + 2) 0 ∷ get_or octets (at + 2 + 1) 0 ∷ drop n octets) e) in
    whole ∙ sym (ap (λ (xs : List ℕ). xs ++ drop (at + 4) octets) (number32_octets (get_or octets at 0) (get_or octets (at + 1) 0) (get_or octets (at + 2) 0) (get_or octets (at + 2 + 1) 0) (fits at) (fits (at + 1)) (fits (at + 2)) (fits (at + 2 + 1))))

-- a number is read from its octets
pub number16_back : (n : ℕ) → n < 2 ^ 16 → 2 ^ 8 * (n / 256 % 256) + n % 256 ≡ n
number16_back n lt = omega arith

pub number32_back : (n : ℕ) → n < 2 ^ 32 → 2 ^ 16 * (2 ^ 8 * (n / 16777216 % 256) + n / 65536 % 256) + (2 ^ 8 * (n / 256 % 256) + n % 256) ≡ n
number32_back n lt = omega arith

-- the octets are a text and then the rest
pub record Starts (octets text rest : List ℕ) : Type 0 where
  pub parts : octets ≡ text ++ rest

pub Starts-then : {a x b y c : List ℕ} → Starts a x b → Starts b y c → Starts a (x ++ y) c
Starts-then {a} {x} {b} {y} {c} p q = record { parts = p.parts ∙ ap (λ (t : List ℕ). x ++ t) q.parts ∙ sym (append_assoc x y c) }

pub number16_starts : (octets : List ℕ) (at n : ℕ) → IsBytes octets → at + 2 ≤ length octets → number16_at octets at ≡ n → Starts (drop at octets) (to_be_bytes w16 n) (drop (at + 2) octets)
number16_starts octets at n fits le e = record { parts = number16_piece octets at fits le ∙ ap (λ (k : ℕ). to_be_bytes w16 k ++ drop (at + 2) octets) e }

pub number32_starts : (octets : List ℕ) (at n : ℕ) → IsBytes octets → at + 4 ≤ length octets → number32_at octets at ≡ n → Starts (drop at octets) (to_be_bytes w32 n) (drop (at + 4) octets)
number32_starts octets at n fits le e = record { parts = number32_piece octets at fits le ∙ ap (λ (k : ℕ). to_be_bytes w32 k ++ drop (at + 4) octets) e }

pub slice_starts : (octets text : List ℕ) (a b : ℕ) → a ≤ b → slice_range octets a b ≡ text → Starts (drop a octets) text (drop b octets)
slice_starts octets text a b le e = record { parts = slice_piece octets a b le ∙ ap (λ (t : List ℕ). t ++ drop b octets) e }

pub octet_starts : (octets : List ℕ) (at n : ℕ) → at + 1 ≤ length octets → get_or octets at 0 ≡ n → Starts (drop at octets) (n ∷ []) (drop (at + 1) octets)
octet_starts octets at n le e = record { parts = drop_more octets at 0 (omega arith) ∙ ap (λ (k : ℕ). k ∷ drop (at + 1) octets) e }
