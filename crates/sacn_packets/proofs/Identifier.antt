-- The ACN packet identifier stands exactly where three numbers of four octets do.
use Rattle.std.proofs.Common.{◌≡◌, ℕ, ◌+◌, ◌≤◌, Bool, true, false, List, ◌++◌, length, get_or, take, drop, refl, sym, ap, ◌∙◌, arith, eqb, ◌&&◌}
use Rattle.std.specs.Prelude.{slice_range}
use Rattle.std.specs.Str.{bytes_eq}
use Rattle.std.proofs.lemmas.Slice.Eq.{bytes_eq-Decides}
use Rattle.std.proofs.lemmas.Bool.{eq-eqb, eqb-true, and_parts, and_from}
use Rattle.std.proofs.lemmas.List.{get_or-drop, take_at}
use Rattle.sacn_packets.specs.Octets.{number32_at}
use Rattle.sacn_packets.specs.RootText.{identifier}
use Rattle.sacn_packets.proofs.Pieces.{IsBytes, Starts-then, number32_starts, slice_piece}

-- two tests that pass together are one
both : (p q : Bool) → (p ≡ true → q ≡ true) → (q ≡ true → p ≡ true) → p ≡ q
both true q there back = sym (there refl)
both false true there back = back refl
both false false there back = refl

abbrev tests : List ℕ → Bool
tests octets = (eqb (number32_at octets 4) 0x4153432d && eqb (number32_at octets 8) 0x45312e31) && eqb (number32_at octets 12) 0x37000000

stands : (octets : List ℕ) → IsBytes octets → 16 ≤ length octets → tests octets ≡ true → bytes_eq (slice_range octets 4 16) identifier ≡ true
stands octets fits le pass =
    let last = and_parts (eqb (number32_at octets 4) 0x4153432d && eqb (number32_at octets 8) 0x45312e31) (eqb (number32_at octets 12) 0x37000000) pass in
    let first = and_parts (eqb (number32_at octets 4) 0x4153432d) (eqb (number32_at octets 8) 0x45312e31) last.0 in
    let a = number32_starts octets 4 0x4153432d fits (omega arith) (eqb-true (number32_at octets 4) 0x4153432d first.0) in
    let b = number32_starts octets 8 0x45312e31 fits (omega arith) (eqb-true (number32_at octets 8) 0x45312e31 first.1) in
    let c = number32_starts octets 12 0x37000000 fits (omega arith) (eqb-true (number32_at octets 12) 0x37000000 last.1) in
    let all = Starts-then (Starts-then a b) c in
    let is : slice_range octets 4 16 ≡ identifier = ap (λ (xs : List ℕ). take 12 xs) all.parts ∙ take_at identifier (drop 16 octets) 12 refl in
    (bytes_eq-Decides (slice_range octets 4 16) identifier).1 is

-- what stands further on
there : (octets : List ℕ) (at : ℕ) → get_or octets (4 + at) 0 ≡ get_or (drop 4 octets) at 0
there octets at = sym (get_or-drop 4 octets at 0)

counts : (octets : List ℕ) → bytes_eq (slice_range octets 4 16) identifier ≡ true → tests octets ≡ true
counts octets same =
    let text : drop 4 octets ≡ identifier ++ drop 16 octets = slice_piece octets 4 16 (omega arith) ∙ ap (λ (xs : List ℕ). xs ++ drop 16 octets) ((bytes_eq-Decides (slice_range octets 4 16) identifier).0 same) in
    let a : number32_at octets 4 ≡ 0x4153432d = omega (arith, there octets 0, there octets 1, there octets 2, there octets 3, ap (λ (xs : List ℕ). number32_at xs 0) text) in
    let b : number32_at octets 8 ≡ 0x45312e31 = omega (arith, there octets 4, there octets 5, there octets 6, there octets 7, ap (λ (xs : List ℕ). number32_at xs 4) text) in
    let c : number32_at octets 12 ≡ 0x37000000 = omega (arith, there octets 8, there octets 9, there octets 10, there octets 11, ap (λ (xs : List ℕ). number32_at xs 8) text) in
    and_from (eqb (number32_at octets 4) 0x4153432d && eqb (number32_at octets 8) 0x45312e31) (eqb (number32_at octets 12) 0x37000000) (and_from (eqb (number32_at octets 4) 0x4153432d) (eqb (number32_at octets 8) 0x45312e31) (eq-eqb (number32_at octets 4) 0x4153432d a) (eq-eqb (number32_at octets 8) 0x45312e31 b)) (eq-eqb (number32_at octets 12) 0x37000000 c)

pub identifier_is : (octets : List ℕ) → IsBytes octets → 16 ≤ length octets → tests octets ≡ bytes_eq (slice_range octets 4 16) identifier
identifier_is octets fits le = both (tests octets) (bytes_eq (slice_range octets 4 16) identifier) (stands octets fits le) (counts octets)
