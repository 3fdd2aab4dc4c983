-- How fast packets come: the counts of the latest second and of the one before it are those of the list.
use Rattle.std.proofs.Common.{◌≡◌, ◌<◌, ◌≤◌, ℕ, ◌+◌, Bool, true, false, ◌&&◌, ◌==◌, cond, List, [], ◌∷◌, min, max, nat_lt, zero-add, refl, sym, ap, ◌∙◌, arith}
use Rattle.std.proofs.lemmas.Bool.{eqb-true}
use Rattle.std.proofs.lemmas.Bool.Decides.{nat_tests}
use Rattle.std.proofs.lemmas.List.Sums.{sum_by-cons}
use Rattle.sacn_audit.specs.declared.pace.Pace.{Pace}
use Rattle.sacn_audit.specs.Arrivals.{Arrival, in_turn, latest_moment, packets_in, second_of}
use Rattle.sacn_audit.specs.Rules.{goes_too_fast}
use Rattle.sacn_audit.specs.Audits.{first_pace, pace_after}

one_more_is : (before second : ℕ) (x : Arrival) (xs : List Arrival) → packets_in before second (x ∷ xs) ≡ cond (second_of x.moment + before == second) 1 0 + packets_in before second xs
one_more_is before second x xs = sum_by-cons (λ (y : Arrival). cond (second_of y.moment + before == second) 1 0) x xs

counts : (b : Bool) (n : ℕ) → b ≡ true → cond b 1 0 + n ≡ 1 + n
counts true n e = refl
counts false n e = absurd cc

counts_not : (b : Bool) (n : ℕ) → b ≡ false → cond b 1 0 + n ≡ n
counts_not true n e = absurd cc
counts_not false n e = zero-add n

pub in_order : (a b : ℕ) → a ≤ b → second_of a ≤ second_of b
in_order a b e = omega arith

apart : (n second : ℕ) → n < second → (n == second) ≡ false
apart n second e = grind (arith, nat_tests)

-- in a second after the latest packet there is none
pub none_later : (xs : List Arrival) (before second : ℕ) → second_of (latest_moment xs) + before < second → packets_in before second (in_turn xs) ≡ 0
none_later [] before second e = refl
none_later (x ∷ xs) before second e =
    let m : ℕ = max x.moment (latest_moment xs) in
    let ordered : second_of (latest_moment xs) ≤ second_of m = in_order (latest_moment xs) m (omega arith) in
    let rest : packets_in before second (in_turn xs) ≡ 0 = none_later xs before second (omega (arith, ordered, e)) in
    one_more_is before second (record x { moment = m }) (in_turn xs)
    ∙ counts_not (second_of m + before == second) (packets_in before second (in_turn xs)) (apart (second_of m + before) second e)
    ∙ rest

-- the second before the next one is this one
this_one : (n second : ℕ) → (n + 1 == second + 1) ≡ (n + 0 == second)
this_one n second = grind (arith, nat_tests)

next_before : (second : ℕ) (xs : List Arrival) → packets_in 1 (second + 1) xs ≡ packets_in 0 second xs
next_before second [] = refl
next_before second (x ∷ xs) =
    one_more_is 1 (second + 1) x xs
    ∙ ap (λ (b : Bool). cond b 1 0 + packets_in 1 (second + 1) xs) (this_one (second_of x.moment) second)
    ∙ ap (λ (n : ℕ). cond (second_of x.moment + 0 == second) 1 0 + n) (next_before second xs)
    ∙ sym (one_more_is 0 second x xs)

-- the pace that a list has
abbrev pub pace_of : Arrival → List Arrival → Pace
pace_of x earlier = record {
  second = second_of x.moment;
  count = min (packets_in 0 (second_of x.moment) (x ∷ earlier)) 46;
  follows_many = nat_lt 44 (packets_in 1 (second_of x.moment) (x ∷ earlier));
}

itself : (n : ℕ) → (n + 0 == n) ≡ true
itself n = grind (arith, nat_tests)

not_next : (n : ℕ) → (n + 1 == n) ≡ false
not_next n = grind (arith, nat_tests)

one_more : (n : ℕ) → min (min n 46 + 1) 46 ≡ min (1 + n) 46
one_more n = omega arith

many : (n : ℕ) → nat_lt 44 (min n 46) ≡ nat_lt 44 n
many n = grind (arith, nat_tests)

pub too_many : (n : ℕ) → (min n 46 == 45) ≡ (n == 45)
too_many n = grind (arith, nat_tests)

below : (n m : ℕ) → m ≤ n → (n == m) ≡ false → m < n
below n m le e = grind (arith, nat_tests)

further : (n m : ℕ) → m < n → (n == m + 1) ≡ false → m + 1 < n
further n m lt e = grind (arith, nat_tests)

alone : (n : ℕ) → n ≡ 0 → 1 ≡ min (1 + n) 46
alone n e = omega arith

-- how many came before the latest packet, in a list that is in turn
module _ (x y : Arrival) (earlier : List Arrival) where
  abbrev ys : List Arrival
  ys = y ∷ earlier

  abbrev s : ℕ
  s = second_of x.moment

  abbrev r : ℕ
  r = second_of y.moment

  latest_is : packets_in 0 s (x ∷ ys) ≡ 1 + packets_in 0 s ys
  latest_is = one_more_is 0 s x ys ∙ counts (s + 0 == s) (packets_in 0 s ys) (itself s)

  before_is : packets_in 1 s (x ∷ ys) ≡ packets_in 1 s ys
  before_is = one_more_is 1 s x ys ∙ counts_not (s + 1 == s) (packets_in 1 s ys) (not_next s)

  abbrev pace_if : Bool → Pace → Pace
  pace_if same p = cond same (record p { count = min (p.count + 1) 46 }) (record { second = s; count = 1; follows_many = (s == p.second + 1) && nat_lt 44 p.count })

  module _ (ordered : r ≤ s) (later : (before second : ℕ) → r + before < second → packets_in before second ys ≡ 0) where
    follows_by : (next : Bool) → (s == r + 1) ≡ next → r < s → next && nat_lt 44 (min (packets_in 0 r ys) 46) ≡ nat_lt 44 (packets_in 1 s ys)
    follows_by true e lt =
        many (packets_in 0 r ys)
        ∙ ap (λ (n : ℕ). nat_lt 44 n) (sym (next_before r ys))
        ∙ ap (λ (n : ℕ). nat_lt 44 (packets_in 1 n ys)) (sym (eqb-true s (r + 1) e))
    follows_by false e lt = ap (λ (n : ℕ). nat_lt 44 n) (sym (later 1 s (further s r lt e)))

    paced_by : (same : Bool) → (s == r) ≡ same → pace_if same (pace_of y earlier) ≡ pace_of x ys
    paced_by true e =
        let here = sym (eqb-true s r e) in
        let count = one_more (packets_in 0 r ys) ∙ ap (λ (n : ℕ). min (1 + packets_in 0 n ys) 46) here ∙ ap (λ (n : ℕ). min n 46) (sym latest_is) in
        let follows = ap (λ (n : ℕ). nat_lt 44 (packets_in 1 n ys)) here ∙ ap (λ (n : ℕ). nat_lt 44 n) (sym before_is) in
        λ i. record { second = here i; count = count i; follows_many = follows i }
    paced_by false e =
        let lt : r < s = below s r ordered e in
        let none : packets_in 0 s ys ≡ 0 = later 0 s (omega (arith, lt)) in
        let count = alone (packets_in 0 s ys) none ∙ ap (λ (n : ℕ). min n 46) (sym latest_is) in
        let follows = follows_by (s == r + 1) refl lt ∙ ap (λ (n : ℕ). nat_lt 44 n) (sym before_is) in
        λ i. record { second = s; count = count i; follows_many = follows i }

    pub paced : pace_after x.moment (pace_of y earlier) ≡ pace_of x ys
    paced = paced_by (s == r) refl

-- of the first packet alone
few : (b : Bool) → nat_lt 44 (0 + cond b 1 0) ≡ false
few true = refl
few false = refl

one : (b : Bool) → b ≡ true → 1 ≡ min (0 + cond b 1 0) 46
one true e = refl
one false e = absurd cc

pub first_paced : (x : Arrival) → first_pace x.moment ≡ pace_of x []
first_paced x =
    let n : ℕ = second_of x.moment in
    let count = one (n + 0 == n) (itself n) in
    let follows = sym (few (n + 1 == n)) in
    λ i. record { second = n; count = count i; follows_many = follows i }

pub first_slow : (x : Arrival) → goes_too_fast (x ∷ []) ≡ false
first_slow x = ap (λ (b : Bool). b && (packets_in 0 (second_of x.moment) (x ∷ []) == 45)) (few (second_of x.moment + 1 == second_of x.moment))
