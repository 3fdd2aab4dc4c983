-- Numbers of places: what the eight-bit rule says of two places of one life.
use Rattle.std.proofs.Common.{◌≡◌, ℕ, suc, zero, ◌+◌, ◌-◌, ◌%◌, ◌<◌, ◌≤◌, pos, negsuc, Bool, false, not, ◌&&◌, List, length, take, refl, sym, ap, ◌∙◌, inl, inr, None, arith}
use Rattle.std.specs.Prelude.{nat_lt, nat_le, ◌==◌, count_by, int_lt, int_le, ◌-ℤ◌, if◌then◌else◌}
use Rattle.std.proofs.lemmas.Bool.Decides.{nat_tests}
use Rattle.std.proofs.lemmas.Bool.{agree_below_at, eq-eqb, ne_eqb, le-ltb, cases_eq, cases_lt}
use Rattle.std.proofs.lemmas.List.Sums.{count_by_more_yes}
use Rattle.sacn_world.specs.Streams.{Sent, nothing, at, life_at, rank, number_at, follows, Ordered, late}
use Rattle.sacn_world.specs.Holdings.{refusal_at}
use Rattle.sacn_sources.specs.Order.{same}

-- how far b is ahead of a, going round at 256
abbrev pub ahead : ℕ → ℕ → ℕ
ahead a b = (b + 256 - a) % 256

-- a number is late exactly where it is 0, or 237 to 255, ahead: a table of 256 rows
abbrev late_by : ℕ → Bool
late_by d =
    int_lt (negsuc 19) (if nat_lt d 128 then pos d else pos d -ℤ pos 256) && int_le (if nat_lt d 128 then pos d else pos d -ℤ pos 256) (pos 0)

abbrev outside : ℕ → Bool
outside d = not (nat_le 1 d && nat_le d 236)

pub late_is : (a b : ℕ) → late a b ≡ not (nat_le 1 (ahead a b) && nat_le (ahead a b) 236)
unfolding late
late_is a b = agree_below_at late_by outside 256 (ahead a b) refl (omega arith)

-- k sends later in one life
pub ahead_later : (f r k : ℕ) → ahead ((f + r) % 256) ((f + (r + k)) % 256) ≡ k % 256
ahead_later f r k = omega arith

-- k sends earlier in one life
pub ahead_earlier : (f r k : ℕ) → 0 < k → k < 256 → ahead ((f + (r + k)) % 256) ((f + r) % 256) ≡ 256 - k
ahead_earlier f r k p h = omega arith

-- k more places of one life
count_more : (l : ℕ) (st : List Sent) (p k : ℕ) → p + k ≤ length st → ((j : ℕ) → j < k → life_at st (p + j) ≡ l) → count_by (λ x. x.life == l) (take (p + k) st) ≡ count_by (λ x. x.life == l) (take p st) + k
count_more l st p zero h same =
    let e : p + 0 ≡ p = omega arith in
    ap (λ n. count_by (λ x. x.life == l) (take n st)) e ∙ omega arith
count_more l st p (suc k) h same =
    let e : p + suc k ≡ p + k + 1 = omega arith in
    let before = count_more l st p k (omega arith) (λ j lt. same j (omega arith)) in
    let one = count_by_more_yes (λ x. x.life == l) st (p + k) nothing (omega arith) (eq-eqb _ _ (same k (omega arith))) in
    ap (λ n. count_by (λ x. x.life == l) (take n st)) e ∙ one ∙ omega (arith, before)

-- within one life a place's rank grows by one at each place
pub rank_later : (st : List Sent) (p q : ℕ) → Ordered st → p ≤ q → q < length st → life_at st p ≡ life_at st q → rank st q ≡ rank st p + (q - p)
unfolding rank
rank_later st p q asc le lt same =
    let e : p + (q - p) ≡ q = omega arith in
    let between : (j : ℕ) → j < q - p → life_at st (p + j) ≡ life_at st p =
    λ j h. let a = asc.ascend p (p + j) (omega arith) (omega arith) in let b = asc.ascend (p + j) q (omega arith) lt in omega (arith, a, b, same) in
    let c = count_more (life_at st p) st p (q - p) (omega arith) between in
    ap (λ l. count_by (λ x. x.life == l) (take q st)) (sym same) ∙ ap (λ n. count_by (λ x. x.life == life_at st p) (take n st)) (sym e) ∙ c

module _ (st : List Sent) (asc : Ordered st) where
  -- k places later in one life
  number_later : (p q : ℕ) → p ≤ q → q < length st → life_at st p ≡ life_at st q → ahead (number_at st p) (number_at st q) ≡ (q - p) % 256
  unfolding number_at
  number_later p q le lt same =
      let f = (at st p).first in
      let is : number_at st q ≡ (f + (rank st p + (q - p))) % 256 =
      ap (λ l. (l + rank st q) % 256) (sym (asc.begin p q le lt same)) ∙ ap (λ r. (f + r) % 256) (rank_later st p q asc le lt same) in
      ap (ahead (number_at st p)) is ∙ ahead_later f (rank st p) (q - p)

  number_earlier : (p q : ℕ) → q < p → p < length st → p - q < 256 → life_at st q ≡ life_at st p → ahead (number_at st p) (number_at st q) ≡ 256 - (p - q)
  unfolding number_at
  number_earlier p q lt within near same =
      let f = (at st q).first in
      let is : number_at st p ≡ (f + (rank st q + (p - q))) % 256 =
      ap (λ l. (l + rank st p) % 256) (sym (asc.begin q p (omega arith) within same)) ∙ ap (λ r. (f + r) % 256) (rank_later st q p asc (omega arith) within same) in
      ap (λ n. ahead n (number_at st q)) is ∙ ahead_earlier f (rank st q) (p - q) (omega arith) near

  -- where q comes after p in the stream, the eight-bit rule says what `follows` says
  forward : (p q : ℕ) → p < q → q < length st → not (late (number_at st p) (number_at st q)) ≡ follows st p q
  unfolding follows
  forward p q lt within =
      elim (cases_eq (life_at st p) (life_at st q)) [
        | inl same ↦
            let n = number_later p q (omega arith) within same in
            let l = late_is (number_at st p) (number_at st q) in
            grind (arith, nat_tests, n, l)
        | inr apart ↦ grind (arith, nat_tests, ne_eqb _ _ apart)
      ]

  -- where q is not after p, of the same life and less than 20 behind, its number is late
  backward : (p q : ℕ) → q ≤ p → p < length st → p - q < 20 → life_at st q ≡ life_at st p → not (late (number_at st p) (number_at st q)) ≡ follows st p q
  unfolding follows
  backward p q le within near same =
      let l = late_is (number_at st p) (number_at st q) in
      let no : nat_lt p q ≡ false = le-ltb p q le in
      elim (cases_eq p q) [
        | inl e ↦
            let n = number_later p q (omega arith) (omega arith) (sym same) in
            let z : ahead (number_at st p) (number_at st q) ≡ 0 = n ∙ omega arith in
            grind (arith, nat_tests, z, l, no)
        | inr ne ↦
            let n = number_earlier p q (omega arith) within (omega arith) same in
            grind (arith, nat_tests, n, l, no)
      ]

  -- The invariant at work: the place held is at most the newest delivered one, and q may be delivered after that one
  pub agrees : (p n q : ℕ) → p ≤ n → n < length st → q < length st → refusal_at st n q ≡ None → not (late (number_at st p) (number_at st q)) ≡ follows st p q
  agrees p n q le within there may =
      elim (cases_lt p q) [
        | inl lt ↦ forward p q lt there
        | inr ge ↦
            let a = asc.ascend q p ge (omega arith) in
            let b = asc.ascend p n le within in
            let c : (life_at st q ≡ life_at st n) × (n < q + 20) = grind (arith, nat_tests, may, a, b) in
            backward p q ge (omega arith) (omega (arith, c.1)) (omega (arith, a, b, c.0))
      ]
