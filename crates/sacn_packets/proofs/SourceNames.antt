-- A source name, and what is read from it.
use Rattle.std.proofs.Common.{◌≡◌, ℕ, suc, ◌-◌, ◌≤◌, Bool, true, false, ◌||◌, ◌==◌, List, [], ◌∷◌, ◌++◌, length, take, ◌+◌, replicate, refl, ap, ◌∙◌, arith}
use Rattle.std.specs.List.{before_first, list_any, position_or_len}
use Rattle.sacn_packets.specs.Naming.{padded}

neither : (a b : Bool) → (a || b) ≡ false → (a ≡ false) × (b ≡ false)
neither true b e = absurd cc
neither false b e = (refl, e)

abbrev is_nul : ℕ → Bool
is_nul octet = octet == 0

take_more : (n x : ℕ) (xs : List ℕ) → take (1 + n) (x ∷ xs) ≡ x ∷ take n xs
take_more n x xs = let one : 1 + n ≡ suc n = omega arith in rw one refl

before_nul : (text rest : List ℕ) → list_any is_nul text ≡ false → before_first is_nul (text ++ 0 ∷ rest) ≡ text
before_nul [] rest none = refl
before_nul (x ∷ text) rest none =
    let e = neither (is_nul x) (list_any is_nul text) none in
    rw (e.0) (take_more (position_or_len is_nul (text ++ 0 ∷ rest)) x (text ++ 0 ∷ rest) ∙ ap (λ (xs : List ℕ). x ∷ xs) (before_nul text rest e.1))

pub name_back : (text : List ℕ) → length text ≤ 63 → list_any (λ octet. octet == 0) text ≡ false → before_first (λ octet. octet == 0) (padded text) ≡ text
name_back text few none =
    let more : 64 - length text ≡ suc (63 - length text) = omega arith in
    ap (λ (n : ℕ). before_first is_nul (text ++ replicate n 0)) more ∙ before_nul text (replicate (63 - length text) 0) none
