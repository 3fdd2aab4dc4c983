-- Packets in a row: those that end a stream, and those with levels that have changed.
use Rattle.std.proofs.Common.{◌≡◌, ℕ, ◌+◌, nat_lt, Bool, true, false, ◌&&◌, ◌||◌, ◌==◌, cond, List, [], ◌∷◌, min, refl, ap, arith}
use Rattle.std.specs.Str.{bytes_eq}
use Rattle.sacn_audit.specs.Arrivals.{Arrival, changes, ends, goes_on, in_turn, repeats}
use Rattle.sacn_audit.specs.Audits.{copies_after, ends_after}
use Rattle.sacn_audit.specs.Rules.{is_short_change}

one_more : (n : ℕ) → min (min n 3 + 1) 3 ≡ min (1 + n) 3
one_more n = omega arith

ends_by : (terminated : Bool) (n : ℕ) → ends_after terminated (min n 3) ≡ min (cond terminated (1 + n) 0) 3
ends_by true n = one_more n
ends_by false n = refl

pub ends_more : (x : Arrival) (earlier : List Arrival) → ends_after x.packet.terminated (min (ends earlier) 3) ≡ min (ends (x ∷ earlier)) 3
ends_more x earlier = ends_by x.packet.terminated (ends earlier)

pub ends_in_turn : (xs : List Arrival) → ends (in_turn xs) ≡ ends xs
ends_in_turn [] = refl
ends_in_turn (x ∷ xs) = ap (λ (n : ℕ). cond x.packet.terminated (1 + n) 0) (ends_in_turn xs)

-- ---- levels that have changed

-- so many packets have them: none where that isn't seen, or where three have them
abbrev pub copies_by : Bool → Bool → ℕ
copies_by changes repeats = cond changes 1 (cond repeats 2 0)

abbrev pub copies : List Arrival → ℕ
copies [] = 0
copies (x ∷ earlier) = copies_by (changes (x ∷ earlier)) (repeats (x ∷ earlier) && changes earlier)

is_first : (changes repeats : Bool) → (copies_by changes repeats == 1) ≡ changes
is_first true repeats = refl
is_first false true = refl
is_first false false = refl

pub copies_more : (x y : Arrival) (earlier : List Arrival) → copies_after (goes_on y.packet x.packet) (bytes_eq y.packet.slots x.packet.slots) (copies (y ∷ earlier)) ≡ copies (x ∷ y ∷ earlier)
copies_more x y earlier = ap (λ (b : Bool). copies_by (changes (x ∷ y ∷ earlier)) (repeats (x ∷ y ∷ earlier) && b)) (is_first (changes (y ∷ earlier)) (repeats (y ∷ earlier) && changes earlier))

some_by : (changes repeats : Bool) → nat_lt 0 (copies_by changes repeats) ≡ changes || repeats
some_by true repeats = refl
some_by false true = refl
some_by false false = refl

pub some_copies : (x : Arrival) (earlier : List Arrival) → nat_lt 0 (copies (x ∷ earlier)) ≡ is_short_change (x ∷ earlier)
some_copies x earlier = some_by (changes (x ∷ earlier)) (repeats (x ∷ earlier) && changes earlier)
